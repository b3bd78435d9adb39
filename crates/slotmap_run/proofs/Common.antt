-- What the proofs of this crate cite of std, of the crates below and of this crate's definitions, from one place. Declares nothing.
pub use Rattle.std.proofs.Common.{map as list_map, MatchOption, IsSomeAnd}
pub use Rattle.std.proofs.lemmas.List.{map-id}
pub use Rattle.slotmap_core.proofs.General.KeyLemmas.{keys_total, exact_keys, itself, tied}
pub use Rattle.slotmap_core.specs.Joined.{Joined, JoinedGiven, JoinedDetachStep, named, StepPut, JoinedStep, StepRemove, StepDetach, StepReattach, given_joined}
pub use Rattle.slotmap_core.specs.Key.{Key}
pub use Rattle.slotmap_core.specs.Law.{ShowsLive, ShowsNotLive, LeavesAttached, FindsNothing, GoneForGood, RemovesKey, NoKeyTwice}
pub use Rattle.slotmap_core.specs.Machine.{StandsIn, IsIssued, Fresh, after_insert, in_use}
pub use Rattle.slotmap_core.specs.SecondaryStep.{LooksAt}
pub use Rattle.slotmap_core.specs.Told.{Knowledge, has, is_live, may_be_live, is_detached, gone, absent, known_from, told, Reads, ReadsWhatWasPut, IndexStaysSmall}
pub use Rattle.slotmap_core.specs.declared.commands.Command.{Command}
pub use Rattle.slotmap_core.specs.declared.commands.DetachCommand.{DetachCommand}
pub use Rattle.slotmap_core.specs.declared.commands.DetachCommand.TheVariants.{Plain, Detach, Reattach}
pub use Rattle.slotmap_core.specs.declared.commands.Reply.{Reply}
pub use Rattle.slotmap_core.specs.declared.errors.InsertError.TheVariants.{Full, Memory}
pub use Rattle.slotmap_core.specs.declared.errors.ReattachError.{ReattachError}
pub use Rattle.slotmap_core.specs.declared.joined.JoinedCommand.{JoinedCommand}
pub use Rattle.slotmap_core.specs.declared.joined.JoinedDetachCommand.{JoinedDetachCommand}
pub use Rattle.slotmap_core.specs.declared.joined.JoinedReply.{JoinedReply}
pub use Rattle.slotmap_run.specs.Order.{Served, IsLifo, Orders, StartsNew}
pub use Rattle.slotmap_run.specs.Replies.{joined_reattach_reply_of, insert_reply_of, insert_with_reply_of, reserve_reply_of, reattach_reply_of}
pub use Rattle.slotmap_run.specs.Ties.{joined, told_by, Known, JoinFollows, JoinServed}
