-- `amend_lines::begins` meets its contract.
use mathlib.Core.Path.{refl, sym, ◌∙◌}
use Rattle.fields.specs.Text.{bytes}
use Rattle.fields.proofs.StdWords.{starts_is}
use Rattle.fields.proofs.KeyLaws.{starts_line}
use Rattle.amend_lines.proofs.begins.Goals as goal

pub returns : goal.returns
returns c = c.starts_with.ensures.value ∙ starts_is (bytes "amend=") c.args.s.now ∙ sym (starts_line (bytes "amend=") c.args.s.now refl)
