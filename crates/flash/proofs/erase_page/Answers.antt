-- A whole page is filled, in front of what stands behind it.
use Rattle.flash.proofs.Laws.{page_filled}
use Rattle.flash.proofs.erase_page.Goals as goal

pub returns : goal.returns
returns c = page_filled c.args.page.now c.if-page-lt4096.false (c.fill.ensures.after (λ y h. h))
