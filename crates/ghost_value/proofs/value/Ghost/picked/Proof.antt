-- `picked` makes a struct of a mark alone, with the value that the caller picks. Assumes `Logic`.
use Rattle.std.proofs.Common.{List, [], ◌∷◌, ◌++◌, refl}
use Rattle.std.specs.contracts.marker.PhantomData as Mark
use base.Logic.{SProp, ent}
use contract.Monad.{Fun}
use contract.Running.{tables, tables_of}
use denote.Builtin.{RefOf}
use denote.Exit.{yes}
use denote.Laws.{Is}
use denote.Param.{param, layouts}
use denote.RattleType.{RattleType, owns, Valss}
use denote.Signature.{plain, types_at}
use denote.Steps.{nothing, owned}
use denote.Struct.Laws.{makes}
use denote.Struct.Struct.{Struct, within}
use denote.Triple.Clauses.{Clauses, Ended, closing}
use denote.Triple.Entry.{alive}
use denote.Triple.Spec.{Meets, triple_of}
use denote.Triple.Table.{entered}
use denote.Triple.Walked.{says, Stays, stay_dropped, walk_of, ends_at, walk_Meets, Goes-dropped}
use mir.MapTy.{inst_fn}
use mir.Syntax.{Fn, Args, a_type}
use mir.Val.{Val, vptr, vstruct, vcons, vnil}
use prog.Memory.{Memory}
use prog.Routine.{Routine}
use prog.Wp.{Calls, Loops, WpFn, Tables}
use seplogic.Ra.Ura.{Ura}
use sound.WpLaws.{WpFn-mono}
use types.ByLocal.{alloc_all, pass_all, free_all, look_at, get, sets}
use types.Kit.{Goal, Step, step, Item, ‵, raw, ◌⊛◌, prop, ◌$◌, ◌∵◌, !, qed, move, keep, drop, split, fsplit, fjoin}
use types.Kit.{fpack, feq_i, feq_l, regoal, suffices, done}
use types.Logic.{Logic}
use types.Part.{agg}
use types.Run.{enter, returns, and_then, no_more}
use Rattle.ghost_value.proofs.value.Ghost.picked.Code as code
use Rattle.ghost_value.proofs.value.Ghost.picked.Statement as stated
use Rattle.ghost_value.specs.contracts.value.Ghost as Ghost
use Rattle.ghost_value.specs.contracts.value.Ghost.picked as F
use Rattle.ghost_value.specs.contracts.value.Ghost.picked.Key.{name as #self}

-- at run time: a mark, and a struct that has a mark alone
abbrev mark : Val
mark = vstruct vnil

abbrev marked : Val
marked = vstruct (vcons mark vnil)

-- what a struct with one field owns does not depend on its name
abbrev single : RattleType → RattleType
single row = Struct (record { name = []; args = []; types = []; fields = row ∷ [] })

single-made : {M : Type 1} {𝓤 : Ura M} {𝓛 : Logic 𝓤} {K : Type 0} {Γ : List (Item 𝓤)} {G : Goal 𝓤 𝓛.H} → K
    → (row : RattleType) (x : row.Denot)
    → Step K 𝓛 (‵ ((single row).own_val (x, tt) (marked ∷ [])) ∷ Γ) G (‵ (row.own_val x (mark ∷ [])) ∷ Γ) G
single-made t row x = step (λ s.
    nothing t $ move t (1 ∷ 0 ∷ []) $ fjoin t $ feq_i t (List Val) (marked ∷ []) (marked ∷ []) refl $ fjoin t $
    fpack t (Valss (row ∷ []))
    (within (record { name = []; args = []; types = []; fields = row ∷ [] }) (x, tt) (marked ∷ [])) (mark ∷ [], tt) $ s)

module _ (kind first second : RattleType) where
  abbrev args : Args
  args = layouts (a_type ∷ a_type ∷ a_type ∷ []) (kind, (first, (second, tt)))

  abbrev marker : RattleType
  marker = Mark.the_row (param 0 kind)

  abbrev function : Fn
  function = inst_fn args code.function

  abbrev ended : Ended
  ended = F.ended kind first second

  abbrev stayed : Stays ended.signature.params ended.kept
  stayed = (
    stay_dropped (RefOf (0 ∷ []) tt (plain (λ _. param 1 first)) (λ _. tt)) yes,
    (stay_dropped (RefOf (1 ∷ []) tt (plain (λ _. param 2 second)) (λ _. tt)) yes, tt),
  )

  module _ {M : Type 1} {𝓤 : Ura M} (𝓛 : Logic 𝓤) (at_mem : Memory → SProp 𝓤) (run : Routine → Fun 𝓤) where
    open 𝓛 use {H}

    abbrev held : Clauses 𝓤 ended
    held = F.clauses kind first second 𝓛 at_mem run

    module _ (C : Calls 𝓤 H) (Λ : Loops 𝓤 H) (z : (walk_of 𝓛 ended stayed held).Ghost) where
      abbrev Post : Val → SProp 𝓤
      Post = (walk_of 𝓛 ended stayed held).post z

      walks : ent 𝓤 ((walk_of 𝓛 ended stayed held).pre z)
          (WpFn 𝓤 H C Λ function ((walk_of 𝓛 ended stayed held).args z) Post)
      walks =
          let a = z.0.3 in
          let vss = z.0.4 in
          let p = vptr a.0.ref_ptr.0 a.0.ref_ptr.1 in
          let q = vptr a.1.0.ref_ptr.0 a.1.0.ref_ptr.1 in
          let made : (Ghost.the_row (param 0 kind)).Denot = record { kind = record {}; value = z.1 } in
          let toks : SProp 𝓤 = alive 𝓛 ended.signature z.0.0 z.0.1 in
          qed 𝓛 ((raw toks ⊛ ‵ (owns (types_at ended.signature.params z.0.0) a vss))
          ∷ raw ((held z.0.0 a).requires z.1) ∷ []) ∵
          keep ! (0 ∷ []) $ split ! $ move ! (1 ∷ []) $ fsplit ! $ fsplit ! $ feq_l ! (λ is. drop ! $
          fsplit ! $ fsplit ! $ feq_l ! (λ are. drop ! $ drop ! $
          regoal ! (λ (us : List Val). prop (WpFn 𝓤 H C Λ function (us ++ (vss.1.0 ++ [])) Post)) is refl $
          regoal ! (λ (us : List Val). prop (WpFn 𝓤 H C Λ function ((p ∷ []) ++ (us ++ [])) Post)) are refl $
          enter ! C Λ function (p ∷ q ∷ []) Post $ alloc_all ! (λ l. pass_all ! refl ((tt, tt), ((tt, tt), tt)) $
          sets ! (agg ! (no_more !)) refl (tt, tt) $
          sets ! (agg ! (and_then ! (get ! refl) (no_more !))) refl (tt, (tt, tt)) $
          nothing ! $ owned ! marker (Is marker) (makes (Mark.the_type (param 0 kind)) tt 𝓛) (record {})
          (mark ∷ []) (tt, (refl, tt)) $
          single-made ! marker (record {}) $ fjoin ! $
          returns ! (look_at ! 0 refl) $ free_all ! refl $
          suffices ! _ (ends_at 𝓛 ended stayed held z marked made (tt, (tt, tt)) (tt, (tt, tt))) $ says ! refl $
          nothing ! $ nothing ! $ fjoin ! $ nothing ! $ fjoin ! $ move ! (2 ∷ 0 ∷ 1 ∷ []) $ done !)))

    meets : (𝓣 : Tables 𝓤 H) → Meets 𝓛 ended.signature (WpFn 𝓤 H 𝓣.C 𝓣.Λ function) (closing 𝓛 ended held)
    meets 𝓣 =
        walk_Meets 𝓛 ended stayed (
          Goes-dropped 𝓛 5 (RefOf (0 ∷ []) tt (plain (λ _. param 1 first)) (λ _. tt)) yes (λ κs x f. refl),
          (Goes-dropped 𝓛 5 (RefOf (1 ∷ []) tt (plain (λ _. param 2 second)) (λ _. tt)) yes (λ κs x f. refl), tt),
        ) held
        (WpFn 𝓤 H 𝓣.C 𝓣.Λ function) (WpFn-mono 𝓤 H 𝓛.laws 𝓣 function) (walks 𝓣.C 𝓣.Λ)

pub picked_spec : {M : Type 1} → stated.statement M
unfolding tables_of
picked_spec 𝓤 𝓛 𝓜 𝓡 wired kind first second _ _ _ =
    let 𝓣 : Tables 𝓤 𝓛.H = tables_of 𝓤 𝓛.H 𝓜 (tables 𝓤 𝓛.H 𝓜 𝓡 𝓡.env) in
    entered 𝓤 𝓛.H (triple_of 𝓛 (ended kind first second).signature
    (closing 𝓛 (ended kind first second) (held kind first second 𝓛 𝓜.mem 𝓡.returns))) 𝓣.C 𝓣.Λ
    (#self (args kind first second)) (function kind first second)
    (code.unfolded 𝓤 𝓛.H 𝓜 𝓡 wired (kind, (first, (second, tt))))
    (meets kind first second 𝓛 𝓜.mem 𝓡.returns 𝓣)
