-- What a place of C's owns, by whether it is full, at values of the row R. Assumes `Logic`.
use Rattle.std.proofs.Common.{◌≡◌, List, [], ◌∷◌, refl}
use Rattle.std.specs.Prelude.{Bool, true, false, Option, Some, None, is_some}
use Rattle.std.proofs.alloc.Calls.{Al}
use seplogic.Ra.Ura.{Ura}
use mir.Syntax.{impl, tnil, dnil}
use mir.Val.{Val, vbool, vstruct, vcons, vnil}
use base.Fraction.{full_share}
use base.Fml.{ftrue}
use base.Logic.{SProp, ent, sep, ex, guard, emp, via, id⊢, never_e}
use base.Shift.{Keyless}
use types.Logic.{Logic, sem}
use types.Kit.{Item, Goal, Step, step, prop, raw, ‵, ◌$◌, ◌∵◌, !, qed, use0, show, check, frame, done}
use contract.Monad.{fact, fact_i}
use denote.RattleType.{RattleType}
use denote.Param.Laws.{Laws}
use denote.Exit.{Exit, unchanged, leaves, hidden, under}
use denote.Param.Send.{IsSend, Quiet, part_keyless}
use denote.RawPtr.{Ptr, block_ptr, null_ptr, ptr_val, lies_at, room_at}
use Rattle.osbytes_c.specs.Places.{kept}

-- the machine value of a place
abbrev pub place : Bool → Ptr → Val
place full at = vstruct (vcons (vbool full) (vcons (ptr_val at) vnil))

-- the value's row, as the steps take it
abbrev pub kind : (R : RattleType) → Laws R → Al
kind R laws = record { row = R; laws = laws; g = record { dealloc_token = λ a σ p. ftrue }; d = impl [] tnil dnil; drops = impl [] tnil dnil }

module _ (R : RattleType) where
  module _ {M : Type 1} {𝓤 : Ura M} (𝓛 : Logic 𝓤) where
    pub kept_says : (y : Bool) (p : Ptr) (s : Option R.Denot) → ent 𝓤 (sem 𝓛 (kept R y p s)) (fact 𝓤 (y ≡ is_some s))
    kept_says true p (Some x) = fact_i 𝓤 (true ≡ true) _ refl
    kept_says true p None = never_e 𝓤 _
    kept_says false p (Some x) = never_e 𝓤 _
    kept_says false p None = fact_i 𝓤 (false ≡ false) _ refl

    pub empty_room : (p : Ptr) (s : Option R.Denot) → ent 𝓤 (sem 𝓛 (kept R false p s)) (sem 𝓛 (room_at R p))
    empty_room p None = id⊢ 𝓤 _
    empty_room p (Some x) = never_e 𝓤 _

    pub full_value : (p : Ptr) (s : Option R.Denot) → ent 𝓤 (sem 𝓛 (kept R true p s)) (ex 𝓤 (λ (x : R.Denot). guard 𝓤 (s ≡ Some x) (sem 𝓛 (lies_at R full_share p x))))
    full_value p (Some x) = qed 𝓛 (‵ (lies_at R full_share p x) ∷ []) ∵
        show ! (λ (y : R.Denot). guard 𝓤 (Some x ≡ Some y) (sem 𝓛 (lies_at R full_share p y))) x $ check ! refl $ done !
    full_value p None = never_e 𝓤 _

  -- what is kept may go to another thread where a value may
  pub keyless : IsSend R → (full : Bool) (p : Ptr) (s : Option R.Denot) → Keyless (kept R full p s)
  keyless send true (block_ptr b o) (Some x) = part_keyless R send full_share x b o
  keyless send true null_ptr (Some x) = tt
  keyless send true p None = tt
  keyless send false p (Some x) = tt
  keyless send false (block_ptr b o) None = tt
  keyless send false null_ptr None = tt

pub quiet : {D X : Type 0} (to : D → X) (e : Exit X) → Quiet e → Quiet (hidden (under to e))
quiet to unchanged q = λ x w. tt
quiet to (leaves L l S s r₀) q = λ d. q (to d)

module _ {M : Type 1} {𝓤 : Ura M} {𝓛 : Logic 𝓤} {K : Type 0} {Γ : List (Item 𝓤)} where
  -- an `ensures` of two facts
  pub says_both : K → {φ ψ : Type 0} {P : SProp 𝓤} → φ → ψ → Step K 𝓛 Γ (prop P) Γ (prop (sep 𝓤 P (sep 𝓤 (fact 𝓤 φ) (fact 𝓤 ψ))))
  says_both t {φ} {ψ} {P} x y = step (λ s. record {
    prf = via 𝓤 P s.prf (qed 𝓛 (raw P ∷ []) {P = sep 𝓤 P (sep 𝓤 (fact 𝓤 φ) (fact 𝓤 ψ))} (
        frame ! $ use0 𝓛 (raw (fact 𝓤 ψ)) (fact_i 𝓤 ψ (emp 𝓤) y) $ use0 𝓛 (raw (fact 𝓤 φ)) (fact_i 𝓤 φ (emp 𝓤) x) $ done !));
  })
