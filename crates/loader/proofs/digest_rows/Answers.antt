-- `loader::digest_rows` meets its contract: one row, and the rows of the shape, by their promises.
use Rattle.loader.specs.Digest.{digest_rows}
use Rattle.header.proofs.Rows.{handed_on, row_fails, row_passes}
use Rattle.loader.proofs.digest_rows.Goals as goal

pub returns-in_err-step : goal.returns-in_err-step
unfolding digest_rows
returns-in_err-step c = row_fails _ _ c.step.ensures c.magic_missing-no_magic.ensures c.in_err-step.was (handed_on c.from_residual.ensures)

pub returns : goal.returns
unfolding digest_rows
returns c =
    row_passes _ _ c.step.ensures c.magic_missing-no_magic.ensures c.in_ok-step.was c.shape_rows.ensures
