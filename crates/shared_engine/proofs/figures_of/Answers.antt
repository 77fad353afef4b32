-- `shared_engine::figures_of` meets its contract.
use mathlib.Core.Path.{◌∙◌}
use Rattle.parts.proofs.PartLaws.{own_figures}
use Rattle.shared_engine.proofs.figures_of.Goals as goal

pub figures_from-requires : goal.figures_from-requires
figures_from-requires c = let a = c.args in
    (own_figures a.p a.rows.now a.m c.requires.0 c.method_of-method.ensures c.parts_at-parts.ensures.value).0

pub returns : goal.returns
returns c = let a = c.args in
    record { value = c.figures_from.ensures ∙ (own_figures a.p a.rows.now a.m c.requires.0 c.method_of-method.ensures c.parts_at-parts.ensures.value).1; shared = record { deferred = c.requires.1.deferred; filled = rw c.method_of-method.ensures at c.parts_at-parts.ensures.filled_columns }; columns_kept = c.parts_at-parts.ensures.columns_kept }
