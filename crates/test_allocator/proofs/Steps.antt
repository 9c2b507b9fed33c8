-- The names of the logic that the walks of `allocate` and `deallocate` share.
pub use Rattle.std.proofs.Common.{◌≡◌, ℕ, List, [], ◌∷◌, refl, w64}
pub use Rattle.std.proofs.raw_atomic.Walks.{proved, leaves}
pub use Rattle.std.proofs.alloc.Calls.{Al, token}
pub use mir.Syntax.{Fn}
pub use mir.Val.{Val, vint, vptr}
pub use mir.MapTy.{inst_fn}
pub use base.Fml.{ftrue, flft}
pub use prog.Memory.{size, align, capped}
pub use contract.BorrowLft.{◌⊑◌, ⊑_trans}
pub use contract.Monad.{fact}
pub use contract.Running.{tables}
pub use types.Kit.{‵, raw, ◌⊛◌, later, prop, Sq, ◌$◌, ◌∵◌, !, qed, by, move, keep, use1, split, join, fsplit, fjoin, feq_i, await}
pub use types.Run.{enter, of_opd, addr, stop, fld, no_more, and_then, returns}
pub use types.ByLocal.{alloc_all, pass_all, free_all, look_at, get, through, sets, lands_as}
pub use denote.Builtin.{usize}
pub use denote.Exit.{yes}
pub use denote.Plain.{uint_vals, uint_Tells}
pub use denote.RattleType.{owns}
pub use denote.RawPtr.{block_ptr}
pub use denote.Ref.{shr_vals}
pub use denote.Signature.{Slot, plain, types_at}
pub use denote.Steps.{nothing, heard}
pub use denote.Triple.Call.{calls_at}
pub use denote.Triple.Table.{framed}
pub use denote.Triple.Walked.{Stays, stay_dropped, walk_of, Goes-dropped}
