use Rattle.std.proofs.Common.{◌++◌}
use Rattle.slotmap_script.proofs.{Appending.Appends-trans, Printing.reply_more}
use Rattle.slotmap_script.proofs.reply.write_replies.Goals as goal

pub loop-reply-preserved-in_ok-write_reply : goal.loop-reply-preserved-in_ok-write_reply
loop-reply-preserved-in_ok-write_reply g c =
    let before = c.loop-reply.invariant.2 in
    let one = c.in_ok-write_reply.ensures in
    (tt, tt, (before.0 ++ one.0, reply_more c.loop-reply.yielded before.0 c.in-Some.reply one.0 before.1 one.1, Appends-trans _ _ _ before.0 one.0 before.2 one.2))

pub loop-reply-preserved-in_ok-write_reply-2 : goal.loop-reply-preserved-in_ok-write_reply-2
loop-reply-preserved-in_ok-write_reply-2 g c =
    let before = c.loop-reply.invariant.2 in
    let one = c.in_ok-write_reply.ensures in
    (tt, tt, (before.0 ++ one.0, reply_more c.loop-reply.yielded before.0 c.in-Some.reply one.0 before.1 one.1, Appends-trans _ _ _ before.0 one.0 before.2 one.2))

pub loop-reply-preserved : goal.loop-reply-preserved
loop-reply-preserved g c =
    let before = c.loop-reply.invariant.2 in
    let one = c.in_ok-write_reply.ensures in
    (tt, tt, (before.0 ++ one.0, reply_more c.loop-reply.yielded before.0 c.in-Some.reply one.0 before.1 one.1, Appends-trans _ _ _ before.0 one.0 before.2 one.2))
