-- One more token written, left out, or written with a sign before it.
use Rattle.std.proofs.Common.{◌≡◌, ℕ, true, List, [], ◌∷◌, ◌++◌, sym, ap, subst, append_assoc, append-nil}
use Rattle.lexical_grammar.specs.Cut.{Word}
use Rattle.lexical_grammar.specs.Kept.{is_kept_kind, kept_word}
use Rattle.lexical_grammar.specs.declared.edge.Edge.{Edge}
use Rattle.format_layout.proofs.Adding.{kept-alone, keeps-same}
use Rattle.format_layout.proofs.Steps.{Along, chosen-append}
use Rattle.format_layout.specs.Chosen.{Choice, stays, goes, signed, chosen, pipe_word, IsAllowed, AreAllowed}
use Rattle.format_layout.specs.Laid.{Keeps}
use Rattle.format_layout.specs.Leads.{lead_after, may_come, may_go}
use Rattle.format_layout.specs.Written.{AddsChosen, AddsSame, AddsSigned, LaidChosen, LaidSame}
use Rattle.format_layout.specs.declared.lead.Lead.{Lead}
use Rattle.format_layout.specs.declared.lead.Lead.TheVariants.{Other}

allowed-along : (s e : Lead) (cs : List Choice) (ws : List Word) → AreAllowed s cs ws e → Along cs ws
allowed-along s e [] [] a = tt
allowed-along s e [] (w ∷ ws) a = a
allowed-along s e (c ∷ cs) [] a = a
allowed-along s e (c ∷ cs) (w ∷ ws) a = allowed-along (lead_after s w.kind w.text) e cs ws a.1

allowed-more : (s e : Lead) (cs : List Choice) (ws : List Word) (c : Choice) (w : Word)
    → AreAllowed s cs ws e → IsAllowed e c w
    → AreAllowed s (cs ++ c ∷ []) (ws ++ w ∷ []) (lead_after e w.kind w.text)
allowed-more s e [] [] c w a h = (subst (λ l. IsAllowed l c w) (sym a) h, ap (λ l. lead_after l w.kind w.text) a)
allowed-more s e [] (v ∷ ws) c w a h = absurd a
allowed-more s e (d ∷ cs) [] c w a h = absurd a
allowed-more s e (d ∷ cs) (v ∷ ws) c w a h = (a.0, allowed-more (lead_after s v.kind v.text) e cs ws c w a.1 h)

-- one more token, by its choice
one-more : (text more : List ℕ) (edge next : Edge) (most count : ℕ) (lead : Lead) (word : Word) (c : Choice)
    → is_kept_kind word.kind ≡ true → IsAllowed lead c word
    → ((words : List Word) → LaidSame text edge most words
    → LaidSame more next count (words ++ chosen pipe_word (c ∷ []) (word ∷ [])))
    → AddsChosen text edge most lead word more next count (lead_after lead word.kind word.text)
one-more text more edge next most count lead word c k h a words l =
    let mid = chosen pipe_word l.choices words in
    let e : chosen pipe_word (l.choices ++ c ∷ []) (words ++ word ∷ []) ≡ mid ++ chosen pipe_word (c ∷ []) (word ∷ []) =
    chosen-append pipe_word l.choices (c ∷ []) words (word ∷ []) (allowed-along Other lead l.choices words l.allowed) in
    subst (λ w. LaidChosen more next count (lead_after lead word.kind word.text) (words ++ w))
    (sym (kept-alone word k)) (record {
      choices = l.choices ++ c ∷ [];
      allowed = allowed-more Other lead l.choices words c word l.allowed h;
      laid = subst (LaidSame more next count) (sym e) (a mid l.laid);
    })

pub stays-there : (text more : List ℕ) (edge next : Edge) (most count : ℕ) (lead : Lead) (word : Word)
    → is_kept_kind word.kind ≡ true
    → AddsSame text edge most word more next count
    → AddsChosen text edge most lead word more next count (lead_after lead word.kind word.text)
stays-there text more edge next most count lead word k a =
    one-more text more edge next most count lead word stays k tt
    (λ words l. subst (λ w. LaidSame more next count (words ++ w)) (kept-alone word k) (a words l))

pub goes-away : (text : List ℕ) (edge : Edge) (most : ℕ) (lead : Lead) (word : Word) → is_kept_kind word.kind ≡ true
    → may_go lead word.kind ≡ true
    → AddsChosen text edge most lead word text edge most (lead_after lead word.kind word.text)
goes-away text edge most lead word k h =
    one-more text text edge edge most most lead word goes k h
    (λ words l. subst (LaidSame text edge most) (sym (append-nil words)) l)

pub comes-before : (text more : List ℕ) (edge next : Edge) (most count : ℕ) (lead : Lead) (word : Word)
    → is_kept_kind word.kind ≡ true
    → may_come lead word.kind ≡ true → AddsSigned text edge most word more next count
    → AddsChosen text edge most lead word more next count (lead_after lead word.kind word.text)
comes-before text more edge next most count lead word k h a =
    one-more text more edge next most count lead word signed k h a

-- a sign, and then a token
pub sign-then : (text middle more : List ℕ) (edge between next : Edge) (most between_most count : ℕ) (word : Word)
    → is_kept_kind word.kind ≡ true
    → AddsSame text edge most pipe_word middle between between_most
    → AddsSame middle between between_most word more next count → AddsSigned text edge most word more next count
sign-then text middle more edge between next most between_most count word k a b words l =
    subst (LaidSame more next count) (append_assoc words (pipe_word ∷ []) (word ∷ []))
    (subst (λ w. LaidSame more next count ((words ++ pipe_word ∷ []) ++ w)) (kept-alone word k)
    (b (words ++ pipe_word ∷ []) (a words l)))

-- white space after a token
pub then-keeps : (text middle more : List ℕ) (edge between next : Edge) (most between_most count : ℕ) (word : Word)
    → AddsSame text edge most word middle between between_most → Keeps middle between between_most more next count
    → AddsSame text edge most word more next count
then-keeps text middle more edge between next most between_most count word a k words l =
    keeps-same middle more between next between_most count (words ++ kept_word word) k (a words l)
