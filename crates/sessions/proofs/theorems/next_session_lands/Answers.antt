-- The law of `Landing.antt`.
use Rattle.sessions.proofs.Landing.{next_session_lands}
use Rattle.sessions.proofs.theorems.next_session_lands.Goals as goal

pub returns : goal.returns
returns c = next_session_lands
