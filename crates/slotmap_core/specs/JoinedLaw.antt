-- A law of the replies to joined commands.
use Rattle.std.specs.Prelude.{◌≡◌, ℕ, List, ◌∷◌, ◌++◌, length, Some, None, ⊤}
use Rattle.std.specs.List.{AllZip}
use Rattle.slotmap_core.specs.declared.joined.JoinedCommand.TheVariants as command
use Rattle.slotmap_core.specs.declared.joined.JoinedDetachCommand.{JoinedDetachCommand}
use Rattle.slotmap_core.specs.declared.joined.JoinedDetachCommand.TheVariants as detaching
use Rattle.slotmap_core.specs.declared.joined.JoinedReply.{JoinedReply}
use Rattle.slotmap_core.specs.declared.joined.JoinedReply.TheVariants as reply

-- if the command asks the primary map for the key that n names, the reply is that of a key that is neither live nor detached
abbrev pub JoinedFindsNothing : {K V W R : Type 0} → ℕ → JoinedDetachCommand V W → JoinedReply K V W R → Type 0
JoinedFindsNothing n (detaching.Plain (command.Remove m)) answer = m ≡ n → answer ≡ reply.Taken None
JoinedFindsNothing n (detaching.Detach m) answer = m ≡ n → answer ≡ reply.Taken None
JoinedFindsNothing n (detaching.Reattach m v) answer = m ≡ n → answer ≡ reply.NotDetached v
JoinedFindsNothing n _ answer = ⊤

-- Once a Remove returned the value of the key that a number names, no later command finds that key in the primary map. `of`
-- makes a command with detaching from one of the list.
abbrev pub JoinedRemovedForGood : {K V W R C : Type 0} → (C → JoinedDetachCommand V W) → List C → List (JoinedReply K V W R) → Type 0
JoinedRemovedForGood {K} {V} {W} {R} {C} of commands replies =
    (before after : List C) (told_before told_after : List (JoinedReply K V W R)) (n : ℕ) (c : C) (v : V)
    → length before ≡ length told_before
    → of c ≡ detaching.Plain (command.Remove n)
    → commands ≡ before ++ c ∷ after
    → replies ≡ told_before ++ reply.Taken (Some v) ∷ told_after
    → AllZip (λ d answer. JoinedFindsNothing n (of d) answer) after told_after
