-- The text of a reply: the line that it is printed as.
use Rattle.std.specs.Prelude.{◌≡◌, ℤ, ℕ, List, [], ◌∷◌, ◌++◌, codes, Option, Some, None}
use Rattle.std.specs.Fmt.{decimal, signed_decimal}
use Rattle.std.specs.List.{flat_map}
use Rattle.std.specs.List.Sorted.{IsPermutation, IsSorted}
use Rattle.slotmap_core.specs.Words.{Key, key_cmp, ffi}
use Rattle.slotmap_core.specs.declared.commands.Reply.{Reply}
use Rattle.slotmap_core.specs.declared.commands.Reply.TheVariants as reply
use Rattle.slotmap_core.specs.declared.errors.OutOfMemory.{OutOfMemory}

-- a line ends with a line feed
abbrev pub line : List ℕ → List ℕ
line text = text ++ 10 ∷ []

-- the line of a value that was looked up or taken
abbrev pub found_text : Option ℤ → List ℕ
found_text (Some value) = line (codes "value " ++ signed_decimal value)
found_text None = line (codes "none")

-- a space and the key, as one number in decimal digits
abbrev pub spaced_key : Key → List ℕ
spaced_key key = 32 ∷ decimal (ffi key)

-- the line of a list of keys
abbrev pub keys_text : List Key → List ℕ
keys_text keys = line (codes "keys" ++ flat_map spaced_key keys)

-- these are the same keys, by ascending index
pub record IsAscending (keys ascending : List Key) : Type 0 where
  pub same_keys : IsPermutation keys ascending
  pub in_order : IsSorted key_cmp ascending

-- the reply is printed as this text
abbrev pub IsReplyText : Reply Key ℤ ℤ OutOfMemory → List ℕ → Type 0
IsReplyText (reply.Key key) text = text ≡ line (codes "key " ++ decimal (ffi key))
IsReplyText (reply.Full back) text = text ≡ line (codes "full")
IsReplyText (reply.Memory back) text = text ≡ line (codes "memory")
IsReplyText (reply.Looked found) text = text ≡ found_text found
IsReplyText (reply.Taken found) text = text ≡ found_text found
IsReplyText reply.Done text = text ≡ line (codes "done")
IsReplyText (reply.Keys keys) text = (ascending : List Key) × IsAscending keys.items ascending × (text ≡ keys_text ascending)
IsReplyText (reply.Len count) text = text ≡ line (codes "len " ++ decimal count)
IsReplyText (reply.NotDetached back) text = text ≡ line (codes "not detached")
-- no line of a script leads to another reply
IsReplyText _ text = text ≡ []
