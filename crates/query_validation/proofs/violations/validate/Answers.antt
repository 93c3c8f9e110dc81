use Rattle.std.proofs.Common.{◌≡◌, [], ◌++◌, cond, map, take, sym, ap, ◌∙◌, append-nil}
use Rattle.std.proofs.lemmas.List.{take_all, take-map}
use Rattle.std.specs.List.{filter, flat_map, list_any}
use Rattle.std.specs.declared.alloc.Global.{Global}
use Rattle.std.specs.declared.vec.Vec.{Vec}
use Rattle.document_grammar.specs.Numbers.{is_kind}
use Rattle.document_grammar.specs.declared.kind.SyntaxKind.{SyntaxKind}
use Rattle.validation_names.specs.Sites.{as_located}
use Rattle.type_system.proofs.Picked.{picked_more}
use Rattle.type_system.specs.Schemas.{types}
use Rattle.query_validation.proofs.ListedLemmas.{listed_then}
use Rattle.query_validation.proofs.violations.validate.Goals as goal
use Rattle.query_validation.proofs.violations.validate.Goals.{then-is_one_of+in_ok-judge_definition, else-is_one_of}
use Rattle.query_validation.specs.Breaches.{as_breach, definition_breaches, is_executable}
use Rattle.query_validation.specs.declared.violations.QueryViolation.{QueryViolation}
use Rattle.query_validation.specs.declared.violations.TheConstants.{EXECUTABLES}

pub loop-definition-preserved : goal.loop-definition-preserved
loop-definition-preserved c =
    let f = definition_breaches (types c.args.schema.now) in
    let sites = c.deref-definition-items.result.now in
    let n = c.loop-definition.definition-index in
    let d = as_located c.definition-item.result in
    let before = flat_map f (filter is_executable (map as_located (take n sites))) in
    let is : c.is_one_of.result ≡ is_executable d =
    c.is_one_of.ensures ∙ ap (λ (k : SyntaxKind). list_any (λ one. is_kind one k) EXECUTABLES) c.kind.ensures in
    let more =
    picked_more as_located sites n c.definition-item.result c.loop-definition-test.true c.definition-item.is
    is_executable f in
    elim c.if-is_one_of.branch [
      | then-is_one_of+in_ok-judge_definition w ↦
          ap (λ (v : Vec QueryViolation Global). take c.args.most (map as_breach v.items)) w.found-is
          ∙ listed_then c.args.most (map as_breach c.loop-definition.found.items)
          (map as_breach w.judge_definition.new.found.items) before (f d) c.loop-definition.invariant
          w.in_ok-judge_definition.ensures
          ∙ ap (take c.args.most) (sym (more ∙ ap (λ b. before ++ cond b (f d) []) (sym is ∙ w.if-is_one_of.true)))
      | else-is_one_of w ↦
          ap (λ (v : Vec QueryViolation Global). take c.args.most (map as_breach v.items)) w.found-is
          ∙ c.loop-definition.invariant
          ∙ ap (take c.args.most)
          (sym (more ∙ ap (λ b. before ++ cond b (f d) []) (sym is ∙ w.if-is_one_of.false) ∙ append-nil before))
    ]

pub returns-clause-exact : goal.returns-clause-exact
returns-clause-exact c =
    let f = definition_breaches (types c.args.schema.now) in
    let found = c.loop-definition.found.items in
    let sites = c.deref-definition-items.result.now in
    ap (map as_breach) c.truncate.ensures.items
    ∙ sym (take-map as_breach c.args.most found)
    ∙ c.loop-definition.invariant
    ∙ ap (λ xs. take c.args.most (flat_map f (filter is_executable (map as_located xs))))
    (take_all c.loop-definition.definition-index sites c.loop-definition-test.false
    ∙ c.deref-definition-items.ensures.value)
    ∙ ap (λ ds. take c.args.most (flat_map f (filter is_executable ds))) c.in_ok-definitions.ensures
