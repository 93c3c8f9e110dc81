use Rattle.std.proofs.Common.{◌≡◌, map, ap, ◌∙◌, option_map, arith}
use Rattle.apollo_tree.specs.References.{node_place}
use Rattle.validation_rules.specs.Violations.{as_breach}
use Rattle.c_validation.proofs.Findings.{found_of, is-found, node_of}
use Rattle.c_validation.proofs.violation_rows.find_violations.Goals as goal
use Rattle.c_validation.specs.Rows.{messages, violation_rows}

pub returns : goal.returns
returns c =
    let validation = c.in_ok-validation.validation in
    let read = ap (map as_breach) c.as_slice.ensures.value in
    let same : option_map node_place c.map-undecided.result ≡ node_of validation.undecided =
    grind (arith, c.map-undecided.ensures.cases) in
    record {
      found = found_of validation;
      is = is-found _ _ validation _ c.everything.ensures c.limit_of.ensures c.in_ok-validation.ensures.exact
          c.in_ok-validation.ensures.valid;
      rows = c.in_ok-report.ensures.rows ∙ ap (violation_rows 0) read;
      messages = c.in_ok-report.ensures.messages ∙ ap messages read;
      undecided = ap (option_map node_place) c.in_ok-report.ensures.undecided ∙ same;
    }
