-- `persons::Persons::none` meets its contract.
use Rattle.persons.proofs.HeldLaws.{held_zeros}
use Rattle.persons.proofs.LineLaws.{rooted_none}
use Rattle.persons.proofs.Persons.none.Goals as goal

pub returns : goal.returns
returns c = record { rooted = rooted_none; nothing = held_zeros 1000 }
