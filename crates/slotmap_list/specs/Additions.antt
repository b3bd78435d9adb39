-- Many values that are added to a list at once.
use Rattle.std.specs.Prelude.{◌≡◌, ℕ, ◌<◌, ◌++◌, List, Option, Some, Result, MatchResult, map as list_map}
use Rattle.std.specs.Iterator.{Drains, YieldsThen}
use Rattle.slotmap.specs.Words.{Key, Content, used, most}
use Rattle.slotmap_list.specs.declared.PushError.{PushError}
use Rattle.slotmap_list.specs.declared.PushError.TheVariants.{Full, Memory}

module _ {T : Type 0} where
  -- the value that an error holds
  abbrev pub refused : PushError T → T
  refused (Full v) = v
  refused (Memory v) = v

  -- `Full` if and only if these are as many as a map can hold
  abbrev pub FullAfter : ℕ → PushError T → Type 0
  FullAfter n (Full v) = n ≡ most
  FullAfter n (Memory v) = n < most

  -- `Full` if and only if a map can hold no more keys than it has now
  abbrev pub FullAtLimit : Content (Unit {0}) → PushError T → Type 0
  FullAtLimit cursors error = FullAfter (used cursors) error

  -- these values stand at the back, in this order, under cursors of their own; the elements before them are the same
  pub record Adds (old : List (Key × T)) (values : List T) (new : List (Key × T)) : Type 0 where
    pub added : List (Key × T)
    pub behind : new ≡ old ++ added
    pub values_are : list_map (λ e. e.1) added ≡ values

  -- All that the iterator yielded was added, and it is at its end. Or a value was refused, which the error holds, and what was
  -- yielded before was added
  pub record AddsAll {It : Type 0} (it : It) (old : List (Key × T)) (result : Result (Unit {0}) (PushError T)) (new : List (Key × T)) (gives : It → Option T → It → Type 0) : Type 0 where
    pub values : List T
    pub adds : Adds old values new
    pub ended : MatchResult result (λ _. Drains gives it values) (λ error. (rest : It) × YieldsThen gives it values (Some (refused error)) rest)
