-- `plain_engine::figures_of` meets its contract.
use mathlib.Core.Path.{◌∙◌}
use Rattle.parts.proofs.PartLaws.{own_figures}
use Rattle.plain_engine.proofs.figures_of.Goals as goal

pub figures_from-requires : goal.figures_from-requires
figures_from-requires c = let a = c.args in
    (own_figures a.p a.rows a.m c.requires c.method_of-method.ensures c.parts_at-parts.ensures).0

pub returns : goal.returns
returns c = let a = c.args in
    c.figures_from.ensures ∙ (own_figures a.p a.rows a.m c.requires c.method_of-method.ensures c.parts_at-parts.ensures).1
