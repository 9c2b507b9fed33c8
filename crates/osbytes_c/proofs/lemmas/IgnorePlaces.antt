-- A place of C's for ignore files.
use Rattle.std.proofs.Common.{◌≡◌, List, [], ◌∷◌, refl, sym, ap, ◌∙◌}
use Rattle.std.specs.Prelude.{Bool, true, false, Some, None}
use seplogic.Ra.Ura.{Ura}
use mir.Val.{vbool}
use types.Logic.{Logic}
use types.Kit.{Item, Goal, Step, ‵}
use denote.RattleType.{RattleType}
use denote.Laws.{Is}
use denote.RawPtr.{Ptr, ptr_val}
use denote.Steps.{owned}
use denote.Struct.Struct.{Struct, Struct-Makes}
use denote.Struct.Owning.{shape}
use Rattle.osbytes_c.specs.declared.ignores.sets.Ignores.{Ignores}
use Rattle.osbytes_c.specs.declared.ignores.places.HeldIgnores.{HeldIgnores}
use Rattle.osbytes_c.specs.contracts.ignores.places.HeldIgnores.{the_type}
use Rattle.osbytes_c.proofs.lemmas.Places.{place}

abbrev filled : Ignores → HeldIgnores → HeldIgnores
filled x h = record h { full = true; ignores = Some x }

-- a full place whose value was taken out and put back is as it was
pub as_it_was : (h h₁ h₂ : HeldIgnores) (x : Ignores) → h.full ≡ true → h.ignores ≡ Some x → h₁ ≡ record h { full = false; ignores = None } → h₂ ≡ filled x h₁ → h₂ ≡ h
as_it_was h h₁ h₂ x full is took put = put ∙ ap (filled x) took ∙ (λ i. record h { full = sym full i; ignores = sym is i })

-- what its fields own
abbrev Data : RattleType
Data = Struct (shape the_type)

module _ {M : Type 1} {𝓤 : Ura M} {𝓛 : Logic 𝓤} {K : Type 0} {Γ : List (Item 𝓤)} where
  pub fields : {G : Goal 𝓤 𝓛.H} → K → (y : Bool) (p : Ptr) → Step K 𝓛 (‵ (Data.own_val (y, (p, tt)) (place y p ∷ [])) ∷ Γ) G Γ G
  fields t y p = owned t Data (Is Data) (Struct-Makes 𝓛 (shape the_type) ((λ _ _. tt), ((λ _ _. tt), tt))) (y, (p, tt)) (place y p ∷ []) ((vbool y ∷ [], (ptr_val p ∷ [], tt)), (refl, (refl, (refl, tt))))
