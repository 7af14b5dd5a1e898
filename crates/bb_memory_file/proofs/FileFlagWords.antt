-- A flag has one word, and no other word says the flag.
use Rattle.bb_memory_file.specs.FileFormat.{HasFlagWord, flag_in, flag_word}
use Rattle.bb_memory_file.specs.FileNames.{DetachedBy, FileFlag, Free, HeldBy, SentTo}
use Rattle.std.proofs.Common.{Bool, arith, false, refl, subst, sym, true, ℕ, ◌*◌, ◌+◌, ◌≡◌}
use Rattle.std.proofs.lemmas.Bool.{eqb-true}
use Rattle.std.specs.Prelude.{if◌then◌else◌, nat_lt, ◌%◌, ◌/◌, ◌==◌, ◌^◌}

no_lap : (from : FileFlag) → SentTo 0 (2 ^ 30) ≡ from → HasFlagWord from → ⊥
no_lap from same has = let lap = (subst HasFlagWord (sym same) has).1 in absurd (omega (arith, lap))

sent_word : (found : ℕ) → found % 4 ≡ 3 → found ≡ found / 4 / 2 ^ 32 * 2 ^ 34 + 4 * (found / 4 % 2 ^ 32) + 3
sent_word found kind = omega (arith, kind)

held_word : (found : ℕ) → found % 4 ≡ 1 → found ≡ 4 * (found / 4) + 1
held_word found kind = omega (arith, kind)

detached_word : (found : ℕ) → found % 4 ≡ 2 → found ≡ 4 * (found / 4) + 2
detached_word found kind = omega (arith, kind)

word_by : (found : ℕ) (from : FileFlag) (free sent few held detached : Bool) → (found == 0) ≡ free → (found % 4 == 3) ≡ sent →
    (found % 4 == 1) ≡ held → (found % 4 == 2) ≡ detached → HasFlagWord from →
    (if free then Free else (if sent then SentTo (found / 4 % 2 ^ 32) (found / 4 / 2 ^ 32)
    else (if few then (if held then HeldBy (found / 4) else (if detached then DetachedBy (found / 4) else SentTo 0 (2 ^ 30)))
    else SentTo 0 (2 ^ 30)))) ≡ from → found ≡ flag_word from
word_by found from true sent few held detached e1 e2 e3 e4 has same =
    subst (λ (flag : FileFlag). found ≡ flag_word flag) same (eqb-true found 0 e1)
word_by found from false true few held detached e1 e2 e3 e4 has same =
    subst (λ (flag : FileFlag). found ≡ flag_word flag) same (sent_word found (eqb-true (found % 4) 3 e2))
word_by found from false false false held detached e1 e2 e3 e4 has same = absurd (no_lap from same has)
word_by found from false false true true detached e1 e2 e3 e4 has same =
    subst (λ (flag : FileFlag). found ≡ flag_word flag) same (held_word found (eqb-true (found % 4) 1 e3))
word_by found from false false true false true e1 e2 e3 e4 has same =
    subst (λ (flag : FileFlag). found ≡ flag_word flag) same (detached_word found (eqb-true (found % 4) 2 e4))
word_by found from false false true false false e1 e2 e3 e4 has same = absurd (no_lap from same has)

-- a word that says the flag is the flag's word
pub word_of_flag : (found : ℕ) (from : FileFlag) → HasFlagWord from → flag_in found ≡ from → found ≡ flag_word from
word_of_flag found from has same =
    word_by found from (found == 0) (found % 4 == 3) (nat_lt (found / 4) (2 ^ 32)) (found % 4 == 1)
    (found % 4 == 2) refl refl refl refl
    has same

-- the flag's word says the flag
pub flag_of_word : (flag : FileFlag) → HasFlagWord flag → flag_in (flag_word flag) ≡ flag
flag_of_word Free has = refl
flag_of_word (HeldBy party) has = grind (arith, has)
flag_of_word (DetachedBy party) has = grind (arith, has)
flag_of_word (SentTo slot lap) has = grind (arith, has)
