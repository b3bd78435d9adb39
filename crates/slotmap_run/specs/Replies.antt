-- The replies to the calls of a map in a run.
use Rattle.slotmap_core.specs.Words.{Result, Ok, Err, Some, None}
use Rattle.slotmap_core.specs.declared.errors.InsertError.{InsertError}
use Rattle.slotmap_core.specs.declared.errors.InsertError.TheVariants as insert
use Rattle.slotmap_core.specs.declared.errors.TryInsertError.{TryInsertError}
use Rattle.slotmap_core.specs.declared.errors.TryInsertError.TheVariants as insert_with
use Rattle.slotmap_core.specs.declared.errors.ReserveError.{ReserveError}
use Rattle.slotmap_core.specs.declared.errors.ReserveError.TheVariants as reserve
use Rattle.slotmap_core.specs.declared.errors.ReattachError.{ReattachError}
use Rattle.slotmap_core.specs.declared.errors.ReattachError.TheVariants as reattach
use Rattle.slotmap_core.specs.declared.commands.Reply.{Reply}
use Rattle.slotmap_core.specs.declared.commands.Reply.TheVariants as reply
use Rattle.slotmap_core.specs.declared.joined.JoinedReply.{JoinedReply}
use Rattle.slotmap_core.specs.declared.joined.JoinedReply.TheVariants as joined_reply

module _ {K V R E : Type 0} where
  abbrev pub insert_reply_of : Result K (InsertError V) → Reply K V R E
  insert_reply_of (Ok key) = reply.Key key
  insert_reply_of (Err (insert.Full value)) = reply.Full (Some value)
  insert_reply_of (Err (insert.Memory value)) = reply.Memory (Some value)

  abbrev pub insert_with_reply_of : Result K (TryInsertError E) → Reply K V R E
  insert_with_reply_of (Ok key) = reply.Key key
  insert_with_reply_of (Err insert_with.Full) = reply.Full None
  insert_with_reply_of (Err insert_with.Memory) = reply.Memory None
  insert_with_reply_of (Err (insert_with.Closure error)) = reply.Failed error

  abbrev pub reserve_reply_of : Result (Unit {0}) ReserveError → Reply K V R E
  reserve_reply_of (Ok done) = reply.Done
  reserve_reply_of (Err reserve.TooGreat) = reply.TooGreat
  reserve_reply_of (Err reserve.Memory) = reply.Memory None

  abbrev pub reattach_reply_of : Result (Unit {0}) (ReattachError V) → Reply K V R E
  reattach_reply_of (Ok done) = reply.Done
  reattach_reply_of (Err (reattach.NotDetached value)) = reply.NotDetached value
  reattach_reply_of (Err (reattach.Memory value)) = reply.Memory (Some value)

module _ {K V W R : Type 0} where
  -- the reply of a joined run to a reattach
  abbrev pub joined_reattach_reply_of : Result (Unit {0}) (ReattachError V) → JoinedReply K V W R
  joined_reattach_reply_of (Ok done) = joined_reply.Done
  joined_reattach_reply_of (Err (reattach.NotDetached value)) = joined_reply.NotDetached value
  joined_reattach_reply_of (Err (reattach.Memory value)) = joined_reply.Memory value
