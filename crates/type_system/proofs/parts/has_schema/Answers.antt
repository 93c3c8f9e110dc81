use Rattle.std.proofs.Common.{sym, ap, ◌∙◌}
use Rattle.document_grammar.specs.Numbers.{is_kind}
use Rattle.document_grammar.specs.declared.kind.SyntaxKind.TheVariants.{SCHEMA_DEFINITION}
use Rattle.apollo_cst_core.specs.Kinds.{is_of}
use Rattle.validation_names.specs.Sites.{Located, as_located}
use Rattle.type_system.proofs.Picked.{any_at}
use Rattle.type_system.proofs.parts.has_schema.Goals as goal

pub returns-then-is : goal.returns-then-is
returns-then-is c =
    any_at (λ (d : Located). is_of SCHEMA_DEFINITION d.place) as_located c.args.definitions.now c.loop-site.site-index
    c.site-item.result c.loop-site-test.true c.site-item.is
    (sym (c.is.ensures ∙ ap (is_kind SCHEMA_DEFINITION) c.kind.ensures) ∙ c.if-is.true)
