-- What choices make of some tokens, and of the marks of these.
use Rattle.std.proofs.Common.{◌≡◌, Bool, true, false, List, [], ◌∷◌, ◌++◌, sym, ap, ◌∙◌, subst, append_assoc}
use Rattle.document_grammar.specs.Tree.{Token}
use Rattle.format_layout.proofs.Plain.{steps, steps-append, is_members, chosen-stay, stay-at}
use Rattle.format_layout.proofs.Stays.{Stays}
use Rattle.format_layout.proofs.Steps.{Fit, Along, AtMarks, pipe_token, chosen-append, along-append, at-append}
use Rattle.format_layout.proofs.Steps.{at-along}
use Rattle.format_layout.specs.Chosen.{Choice, stays, chosen}
use Rattle.format_layout.specs.declared.lead.Lead.{Lead}

-- Of the choices for some tokens and more, those for the first ones make these tokens of them, and these marks of their
-- marks.
pub record Chose (s : Lead) (cs : List Choice) (ts us : List Token) (ms ns : List Bool)
    (rest : List Token) : Type 0 where
  pub own : List Choice
  pub after : List Choice
  pub split : cs ≡ own ++ after
  pub long : Along own ts
  pub written : chosen pipe_token own ts ≡ us
  pub marked : chosen true own ms ≡ ns
  pub at : AtMarks own ms
  pub left : Fit (steps s ts) after rest
  pub ready : is_members (steps s ts) ≡ false

-- where each of them stays
pub chose-none : (s : Lead) (cs : List Choice) (ts rest : List Token) (ms : List Bool) → (r : Stays s cs ts rest)
    → Along r.own ms → Chose s cs ts ts ms ms rest
chose-none s cs ts rest ms r long = record {
  own = r.own;
  after = r.after;
  split = r.split;
  long = r.long;
  written = chosen-stay pipe_token r.own ts r.stay r.long;
  marked = chosen-stay true r.own ms r.stay long;
  at = stay-at r.own ms r.stay long;
  left = r.left;
  ready = r.ready;
}

-- one more before them, which stays
pub chose-after : (s : Lead) (cs : List Choice) (t : Token) (ts us : List Token) (ms ns : List Bool) (rest : List Token)
    → Chose (steps s (t ∷ [])) cs ts us ms ns rest
    → Chose s (stays ∷ cs) (t ∷ ts) (t ∷ us) (false ∷ ms) (false ∷ ns) rest
chose-after s cs t ts us ms ns rest r = record {
  own = stays ∷ r.own;
  after = r.after;
  split = ap (λ l. stays ∷ l) r.split;
  long = r.long;
  written = ap (λ l. t ∷ l) r.written;
  marked = ap (λ l. false ∷ l) r.marked;
  at = r.at;
  left = r.left;
  ready = r.ready;
}

-- choices for some tokens, and for more of them
pub chose-both : (s : Lead) (cs : List Choice) (ts us xs ys : List Token) (ms ns ps qs : List Bool) (rest : List Token)
    → (a : Chose s cs ts us ms ns (xs ++ rest)) → Chose (steps s ts) a.after xs ys ps qs rest
    → Chose s cs (ts ++ xs) (us ++ ys) (ms ++ ps) (ns ++ qs) rest
chose-both s cs ts us xs ys ms ns ps qs rest a b = record {
  own = a.own ++ b.own;
  after = b.after;
  split = a.split ∙ ap (λ l. a.own ++ l) b.split ∙ sym (append_assoc a.own b.own b.after);
  long = along-append a.own b.own ts xs a.long b.long;
  written = chosen-append pipe_token a.own b.own ts xs a.long ∙ ap (λ l. l ++ chosen pipe_token b.own xs) a.written
      ∙ ap (λ l. us ++ l) b.written;
  marked = chosen-append true a.own b.own ms ps (at-along a.own ms a.at) ∙ ap (λ l. l ++ chosen true b.own ps) a.marked
      ∙ ap (λ l. ns ++ l) b.marked;
  at = at-append a.own b.own ms ps a.at b.at;
  left = subst (λ r. Fit r b.after rest) (sym (steps-append s ts xs)) b.left;
  ready = ap is_members (steps-append s ts xs) ∙ b.ready;
}
