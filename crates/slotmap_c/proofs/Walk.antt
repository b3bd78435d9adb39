-- What the proofs by hand cite of the logic, passed on.
pub use mathlib.Core.Bool.{Bool, true}
pub use lib.Dec.{T}
pub use seplogic.Ra.Ura.{Ura}
pub use mir.MapTy.{inst_fn}
pub use mir.Syntax.{Ty, Fn, ty_ptr, named, a_type, Args, dcons, dnil}
pub use mir.Val.{Val, vptr, vstruct, of_list, vbool, has_ty}
pub use base.Fml.{Fml, GName, fsep, ftrue, flft}
pub use base.Fraction.{full_share}
pub use base.Logic.{ent, sep, emp, id⊢, never, never_e, via, fst∗, SProp}
pub use prog.Model.{Model}
pub use prog.Wp.{WpFn}
pub use contract.Monad.{fact, fact_i}
pub use contract.Running.{Running, tables}
pub use types.ByLocal.{alloc_all, pass_all, free_all, look_at, get, through, sets, sets_last, env, get_in}
pub use types.Kit.{‵, raw, some, later, at_ret, !, qed, by, done, move, keep, split, join, fsplit, fsplit3, fjoin, fpick, suffices, frame, group, use1, await, pick, given, learn, drop, rewrite}
pub use types.Kit.{feq_i, feq_l, use0, prop, regoal}
pub use types.Logic.{Logic, sem}
pub use types.Part.{agg, whole, sub, look_in}
pub use types.Run.{stop, of_opd, addr, first, blocks, exec, returns, enter, lit, no_more, and_then, fld, bin}
pub use denote.Builtin.{RawPtr}
pub use denote.Exit.{no}
pub use denote.Follow.{follows, Part, lends_Part}
pub use denote.Laws.{Is, shows}
pub use denote.Memory.{mem, cell_at, part_at, lone}
pub use denote.MutBor.{MutBor}
pub use denote.Param.{layout, param, layouts, bounded}
pub use denote.Param.Laws.{param_laws}
pub use denote.RattleType.{RattleType, Valss, owns}
pub use denote.RawPtr.{Ptr, InBlock, block_ptr, null_ptr, ptr_val, tests_null}
pub use denote.Ref.{MutRef, mut_vals, mut_Tells}
pub use denote.Signature.{plain, mut_ref_to, types_at}
pub use denote.Steps.{nothing, opens, peeks, heard}
pub use denote.Struct.Tuple.{Tuple}
pub use denote.Triple.Clauses.{Clauses, Ended, Lasts, lasts}
pub use denote.Triple.Entry.{alive}
pub use denote.Triple.Spec.{triple_of}
pub use denote.Triple.Table.{framed}
pub use denote.Triple.Walked.{Stays, walk_of, says, stay_dropped, Goes-spent_ref, ends_at}
pub use Rattle.core.proofs.alloc.Calls.{Goes-blank}
pub use Rattle.std.proofs.Common.{ℕ, List, [], refl, sym, subst, not, ap, lit<}
pub use Rattle.std.proofs.VecSteps.Shapes.{after}
pub use Rattle.std.proofs.raw_atomic.Walks.{proved, proved_at, leaves}
pub use Rattle.std.specs.Prelude.{Option, is_some, unwrap_or, None, Some}
pub use Rattle.std_alloc.specs.Box.Ownership.{box_owns}
pub use Rattle.std_heap.proofs.Global.TheLaws.{the_row_laws}
pub use Rattle.std_heap.specs.contracts.GlobalAllocator.TheImpl.{ghosts}
