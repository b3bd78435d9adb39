use Rattle.std.proofs.Common.{◌≡◌, ◌≤◌, map, take, length}
use Rattle.slotmap_script.proofs.script.parse_command.Given as goal

-- the words so far stand in the array
abbrev pub invariant-loop-word : goal.invariant-loop-word
invariant-loop-word g l =
    (goal.iterator-loop-word g).can_next l.word-iterator × (goal.iterator-loop-word g).is_finite l.word-iterator
    × (length l.words ≡ 3) × (l.count ≤ 3) × (l.count ≡ length l.yielded)
    × (map (λ word. word.now) (take l.count l.words) ≡ map (λ word. word.now) l.yielded)
