-- What both walks know of a `&` to the allocator: its parameter, its slot, and what its two fields share. Assumes `Logic`.
use Rattle.std.proofs.Common.{ℕ, ◌+◌, [], ◌∷◌, Bor}
use Rattle.std.proofs.alloc.Calls.{Al, α, seen}
use seplogic.Ra.Ura.{Ura}
use mir.Syntax.{Args, a_type, dnil, dcons}
use base.Logic.{ent, sep, id⊢}
use base.Fml.{Lft, Fml}
use prog.Memory.{size, align, up}
use types.Logic.{Logic, sem}
use types.Kit.{‵, ◌$◌, ◌∵◌, !, qed, move, keep, use1, fsplit, done}
use denote.Builtin.{RefOf}
use denote.Memory.{hidden_shr}
use denote.Opens.{unhide}
use denote.Param.{bounded, param}
use denote.RattleType.{RattleType}
use denote.Signature.{Slot, plain}
use Rattle.test_allocator.specs.contracts.allocator.Failing as failing
use Rattle.test_allocator.specs.contracts.requests.Requests as requests

module _ (Z : Al) where
  abbrev row : RattleType
  row = failing.the_row (param 0 Z.row)

  -- the arguments that a method is compiled with
  abbrev pub type_args : Args
  type_args = bounded (a_type ∷ []) (Z.row, tt) (dcons Z.d (dcons Z.drops dnil))

  abbrev pub self_slot : Slot 2
  self_slot = RefOf (0 ∷ []) tt (plain (λ _. row)) (λ _. tt)

  module _ (r : Bor row.Denot) where
    -- where the fields `alloc` and `requests` lie
    abbrev pub alloc_at : ℕ × ℕ
    alloc_at = (r.ref_ptr.0, r.ref_ptr.1 + up (align (α Z)) 0)

    abbrev pub requests_at : ℕ × ℕ
    requests_at = (r.ref_ptr.0, r.ref_ptr.1 + up 8 (up (align (α Z)) 0 + size (α Z)))

    module _ (κ : Lft) where
      -- a `&` to each field
      abbrev pub sees_alloc : Fml
      sees_alloc = seen Z κ alloc_at r.now.alloc

      abbrev pub sees_requests : Fml
      sees_requests = hidden_shr requests.the_row κ r.now.requests requests_at.0 requests_at.1

      pub sees_fields : {M : Type 1} {𝓤 : Ura M} (𝓛 : Logic 𝓤) → ent 𝓤 (sem 𝓛 (hidden_shr row κ r.now r.ref_ptr.0 r.ref_ptr.1)) (sep 𝓤 (sem 𝓛 sees_alloc) (sem 𝓛 sees_requests))
      sees_fields {𝓤 = 𝓤} 𝓛 =
          qed 𝓛 (‵ (hidden_shr row κ r.now r.ref_ptr.0 r.ref_ptr.1) ∷ []) ∵
          unhide ! $ fsplit ! $ fsplit ! $ use1 𝓛 (‵ sees_alloc) (id⊢ 𝓤 _) $
          move ! (1 ∷ []) $ fsplit ! $ use1 𝓛 (‵ sees_requests) (id⊢ 𝓤 _) $ keep ! (2 ∷ 0 ∷ []) $ done !
