-- By the cases of the operation; each number is its callee's promise.
use Rattle.abi_session.proofs.operation.operation_words.Goals as goal

pub returns-in-Nothing : goal.returns-in-Nothing
returns-in-Nothing c = rw c.in-Nothing.is

pub returns-in-ErasePage : goal.returns-in-ErasePage
returns-in-ErasePage c = rw (c.in-ErasePage.is, c.page_offset.ensures)

pub returns-in-StoreWord : goal.returns-in-StoreWord
returns-in-StoreWord c = rw (c.in-StoreWord.is, c.low.ensures, c.word_number.ensures)
