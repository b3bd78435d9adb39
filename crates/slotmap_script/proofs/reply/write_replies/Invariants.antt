use Rattle.std.proofs.Common.{ℕ, List}
use Rattle.std.specs.Io.KnownBytes.{Appends}
use Rattle.slotmap_script.specs.Printed.{PrintsReplies}
use Rattle.slotmap_script.proofs.reply.write_replies.Given as goal

-- the replies so far are written
abbrev pub invariant-loop-reply : goal.invariant-loop-reply
invariant-loop-reply g l =
    (goal.iterator-loop-reply g).can_next l.reply-iterator × (goal.iterator-loop-reply g).is_finite l.reply-iterator
    × ((text : List ℕ) × PrintsReplies l.yielded text × Appends (g.W.Write.contents l.fn.output) (g.W.Write.contents l.output) text)
