use Rattle.std.proofs.Common.{◌++◌, take}
use Rattle.std.specs.{Prelude.codes, List.flat_map}
use Rattle.std.specs.Io.KnownBytes.{Appends}
use Rattle.slotmap_script.specs.ReplyText.{spaced_key}
use Rattle.slotmap_script.proofs.reply.write_keys.Given as goal

-- the keys so far are written
abbrev pub invariant-loop-key : goal.invariant-loop-key
invariant-loop-key g l =
    let contents = g.W.Write.contents in
    Appends (contents l.fn.output) (contents l.output) (codes "keys" ++ flat_map spaced_key (take l.key-index l.keys))
