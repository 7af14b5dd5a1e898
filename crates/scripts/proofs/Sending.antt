-- Known bytes that grow, and bytes that are sent, all or a beginning.
use Rattle.scripts.specs.Scripts.{AppendsPart, Ends, IsAnswered, IsLeft, IsOutput, IsUnreadable, Kind, Sends, Status}
use Rattle.scripts.specs.Words.{unreadable_text}
use Rattle.scripts.specs.declared.status.Status.TheVariants.{Done, OutOfMemory, OutputFailed, Unreadable}
use Rattle.std.proofs.Common.{IfSome, List, None, Option, Some, [], ap, arith, drop, inl, inr, length, refl, sym, take, tests, true, ℕ, ◌++◌, ◌-◌, ◌==◌, ◌∙◌, ◌∷◌, ◌≡◌}
use Rattle.std.proofs.lemmas.List.{append-nil, append_assoc, take-append-drop, take_rest}
use Rattle.std.specs.Io.KnownBytes.{Appends, Keeps}

-- known bytes grow by no byte
pub appends_nothing : (known : Option (List ℕ)) → Appends known known []
appends_nothing None = tt
appends_nothing (Some a) = sym (append-nil a)

-- by one text and then by another
pub appends_again : (old mid new : Option (List ℕ)) (xs ys : List ℕ) → Appends old mid xs → Appends mid new ys
    → Appends old new (xs ++ ys)
appends_again None mid new xs ys one two = tt
appends_again (Some a) None new xs ys one two = absurd one
appends_again (Some a) (Some b) None xs ys one two = absurd two
appends_again (Some a) (Some b) (Some c) xs ys one two = two ∙ (ap (λ l. l ++ ys) one ∙ append_assoc a xs ys)

-- by a text, and then stay
pub appends_kept : (old mid new : Option (List ℕ)) (xs : List ℕ) → Appends old mid xs → Keeps mid new → Appends old new xs
appends_kept None mid new xs one two = tt
appends_kept (Some a) None new xs one two = absurd one
appends_kept (Some a) (Some b) None xs one two = absurd two
appends_kept (Some a) (Some b) (Some c) xs one two = two ∙ one

-- more is sent of what is left
pub sent_more : (bytes sent left rest : List ℕ) (count : ℕ) → bytes ≡ sent ++ left →
    rest ≡ take (length left - count) (drop count left) → bytes ≡ (sent ++ take count left) ++ rest
sent_more bytes sent left rest count whole same =
    rw (same, take_rest left count, append_assoc sent (take count left) (drop count left), take-append-drop count left) whole

-- nothing changes if nothing is written
pub keeps_same : (known : Option (List ℕ)) → Keeps known known
keeps_same None = tt
keeps_same (Some a) = refl

-- nothing changes if no byte is appended
pub kept_by_none : (old new : Option (List ℕ)) (left : List ℕ) (count : ℕ) → count ≡ 0 → Appends old new (take count left)
    → Keeps old new
kept_by_none None new left count none wrote = tt
kept_by_none (Some a) None left count none wrote = absurd wrote
kept_by_none (Some a) (Some b) left count none wrote = (rw none at wrote) ∙ append-nil a

-- the part of a text that isn't left is written
abbrev pub Sent : List ℕ → List ℕ → Option (List ℕ) → Option (List ℕ) → Type 0
Sent text left old new = (sent : List ℕ) × (text ≡ sent ++ left) × Appends old new sent

-- nothing is left, and nothing is written after it
pub all_sent : (old mid new : Option (List ℕ)) (text left : List ℕ) (status : Status) → Sent text left old mid
    → true ≡ (length left == 0) → Keeps mid new → Sends old new text status status
all_sent old mid new text [] status (sent, whole, wrote) none kept =
    inl (refl, rw (whole ∙ append-nil sent) (appends_kept old mid new sent wrote kept))
all_sent old mid new text (byte ∷ left) status sent none kept = grind (arith, tests)

-- a write fails
pub part_sent : (old mid new : Option (List ℕ)) (text left : List ℕ) (status : Status) → Sent text left old mid
    → Keeps mid new → Sends old new text status OutputFailed
part_sent old mid new text left status (sent, whole, wrote) kept =
    inr (refl, (sent, (left, whole), appends_kept old mid new sent wrote kept))

-- a write fails, and a beginning of the output was written
ends_failed : {table : List Kind} (input : List ℕ) (old new : Option (List ℕ)) (text : List ℕ) → AppendsPart old new text
    → IsOutput table input text → Ends table input old new OutputFailed
ends_failed input old new text (sent, begins, wrote) output = record {
  done = λ is. absurd (cc);
  unreadable = λ is. absurd (cc);
  input_read = λ is. cc;
  out_of_memory = λ is. absurd (cc);
  output_failed = λ is. (sent, (text, output, begins), wrote);
}

-- all replies to a script are written, or a write fails
pub ends_done : {table : List Kind} (input : List ℕ) (old new : Option (List ℕ)) (text : List ℕ) (ends : Status)
    → IsAnswered table input text → Sends old new text Done ends → Ends table input old new ends
ends_done input old new text ends answered (inl (is, wrote)) = rw is (record {
  done = λ same. (text, answered, wrote);
  unreadable = λ same. absurd (cc);
  input_read = λ same. cc;
  out_of_memory = λ same. absurd (cc);
  output_failed = λ same. absurd (cc);
})
ends_done input old new text ends answered (inr (is, part)) = rw is (ends_failed input old new text part (inl answered))

-- a line is unreadable, or a write fails
pub ends_unreadable : {table : List Kind} (input : List ℕ) (old new : Option (List ℕ)) (number : ℕ) (ends : Status)
    → IsUnreadable table input number → Sends old new (unreadable_text number) Unreadable ends → Ends table input old new ends
ends_unreadable input old new number ends unread (inl (is, wrote)) = rw is (record {
  done = λ same. absurd (cc);
  unreadable = λ same. (number, unread, wrote);
  input_read = λ same. cc;
  out_of_memory = λ same. absurd (cc);
  output_failed = λ same. absurd (cc);
})
ends_unreadable input old new number ends unread (inr (is, part)) =
    rw is (ends_failed input old new (unreadable_text number) part (inr (number, unread, refl)))

-- memory runs out before anything is written
pub ends_refused : {table : List Kind} (input : List ℕ) (old : Option (List ℕ)) → Ends table input old old OutOfMemory
ends_refused input old = record {
  done = λ is. absurd (cc);
  unreadable = λ is. absurd (cc);
  input_read = λ is. cc;
  out_of_memory = λ is. keeps_same old;
  output_failed = λ is. absurd (cc);
}

-- an input that was read to its end is all that was left
pub left_all : (left : Option (List ℕ)) (before after : List ℕ) → before ≡ []
    → IfSome left (λ bytes. after ≡ before ++ bytes) → IsLeft after left
left_all None before after none e = tt
left_all (Some bytes) before after none e = e ∙ ap (λ l. l ++ bytes) none
