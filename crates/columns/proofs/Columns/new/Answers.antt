-- `columns::Columns::new` meets its contract: at first no column is filled.
use Rattle.std.proofs.Common.{refl}
use Rattle.columns.proofs.ColumnLaws.{columns_none}
use Rattle.columns.proofs.Columns.new.Goals as goal

pub returns : goal.returns
returns c = λ F. columns_none F _ refl
