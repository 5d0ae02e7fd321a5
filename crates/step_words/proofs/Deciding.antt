-- Whether a line is a command: a search among all that there are decides.
use Rattle.std.proofs.Common.{◌≡◌, ℕ, zero, suc, ◌+◌, ◌<◌, ◌≤◌, ◌^◌, ◌⊎◌, List}
use Rattle.std.proofs.Common.{subst, inl, inr, arith}
use Rattle.std.specs.Prelude.{codes}
use Rattle.std.proofs.lemmas.Bool.{cases_lt}
use Rattle.input_parts.proofs.Lists.{same_or_not}
use Rattle.step_words.specs.declared.command.StepCommand.{StepCommand}
use Rattle.step_words.specs.declared.command.StepCommand.TheVariants.{Forward, Back, Go, Cpu, Bytes, History}
use Rattle.step_words.specs.Commands.{command_text, AreBytes, IsKnown, IsCommand}

-- ---- a search below a limit

pub record Found (P : ℕ → Type 0) (most : ℕ) : Type 0 where
  pub number : ℕ
  pub below : number < most
  pub holds : P number

abbrev pub HasNoneBelow : (ℕ → Type 0) → ℕ → Type 0
HasNoneBelow P most = (n : ℕ) → n < most → ¬ P n

module _ (P : ℕ → Type 0) where
  none_more : (most : ℕ) → HasNoneBelow P most → ¬ P most → HasNoneBelow P (suc most)
  none_more most none other n below holds = by (cases_lt n most)
    where
      by : (n < most) ⊎ (most ≤ n) → ⊥
      by (inl less) = none n less holds
      by (inr more) = let same : n ≡ most = omega arith in other (subst P same holds)

  one_more : (most : ℕ) → Found P most ⊎ HasNoneBelow P most → P most ⊎ (¬ P most)
      → Found P (suc most) ⊎ HasNoneBelow P (suc most)
  one_more most (inl f) d =
      inl record { number = f.number; below = omega (arith, f.below); holds = f.holds }
  one_more most (inr none) (inl here) = inl record { number = most; below = omega arith; holds = here }
  one_more most (inr none) (inr other) = inr (none_more most none other)

  pub search_below : ((n : ℕ) → P n ⊎ (¬ P n)) → (most : ℕ) → Found P most ⊎ HasNoneBelow P most
  search_below decide zero = inr (λ n below holds. omega arith)
  search_below decide (suc most) = one_more most (search_below decide most) (decide most)

-- ---- texts and ranges

bytes_by : (first count : ℕ) → (count < 1) ⊎ (1 ≤ count) → (256 < count) ⊎ (count ≤ 256)
    → (first < 8192) ⊎ (8192 ≤ first) → (1048576 < first + count) ⊎ (first + count ≤ 1048576)
    → AreBytes first count ⊎ (¬ AreBytes first count)
bytes_by first count (inl none) b c d = inr (λ h. omega (arith, h.some))
bytes_by first count (inr some) (inl many) c d = inr (λ h. omega (arith, h.few))
bytes_by first count (inr some) (inr few) (inl low) d = inr (λ h. omega (arith, h.low))
bytes_by first count (inr some) (inr few) (inr low) (inl high) = inr (λ h. omega (arith, h.high))
bytes_by first count (inr some) (inr few) (inr low) (inr high) =
    inl record { some = some; few = few; low = low; high = high }

bytes_or_not : (first count : ℕ) → AreBytes first count ⊎ (¬ AreBytes first count)
bytes_or_not first count =
    bytes_by first count (cases_lt count 1) (cases_lt 256 count) (cases_lt first 8192)
    (cases_lt 1048576 (first + count))

-- ---- a line

module _ (cpus : ℕ) (line : List ℕ) where
  abbrev IsWith : (ℕ → StepCommand) → ℕ → Type 0
  IsWith made n = line ≡ command_text (made n)

  number_or_not : (made : ℕ → StepCommand) (most : ℕ)
      → Found (IsWith made) most ⊎ HasNoneBelow (IsWith made) most
  number_or_not made most =
      search_below (IsWith made) (λ n. same_or_not line (command_text (made n))) most

  abbrev IsRange : ℕ → ℕ → Type 0
  IsRange first count = (line ≡ command_text (Bytes first count)) × AreBytes first count

  both : (first count : ℕ) → (line ≡ command_text (Bytes first count)) ⊎ (¬ (line ≡ command_text (Bytes first count)))
      → AreBytes first count ⊎ (¬ AreBytes first count) → IsRange first count ⊎ (¬ IsRange first count)
  both first count (inl is) (inl bytes) = inl (is, bytes)
  both first count (inl is) (inr other) = inr (λ h. other h.1)
  both first count (inr other) b = inr (λ h. other h.0)

  abbrev HasRange : ℕ → Type 0
  HasRange first = Found (IsRange first) 257

  count_by : (first : ℕ) → Found (IsRange first) 257 ⊎ HasNoneBelow (IsRange first) 257
      → HasRange first ⊎ (¬ HasRange first)
  count_by first (inl f) = inl f
  count_by first (inr none) = inr (λ h. none h.number h.below h.holds)

  count_or_not : (first : ℕ) → HasRange first ⊎ (¬ HasRange first)
  count_or_not first =
      count_by first (search_below (IsRange first)
      (λ n. both first n (same_or_not line (command_text (Bytes first n))) (bytes_or_not first n)) 257)

  command_is : (c : StepCommand) → line ≡ command_text c → IsKnown cpus c → IsCommand cpus line
  command_is c is known = record { command = c; tells = record { spelled = is; known = known } }

  none_is : ¬ (line ≡ codes "H") → HasNoneBelow (IsWith Forward) (2 ^ 64) → HasNoneBelow (IsWith Back) (2 ^ 64)
      → HasNoneBelow (IsWith Go) (2 ^ 64) → HasNoneBelow (IsWith Cpu) cpus → HasNoneBelow HasRange 1048577
      → (c : StepCommand) → line ≡ command_text c → IsKnown cpus c → ⊥
  none_is h f b g c m (Forward n) e k = f n k e
  none_is h f b g c m (Back n) e k = b n k e
  none_is h f b g c m (Go n) e k = g n k e
  none_is h f b g c m (Cpu n) e k = c n k e
  none_is h f b g c m (Bytes first count) e k =
      m first (omega (arith, k.high))
      (record { number = count; below = omega (arith, k.few); holds = (e, k) })
  none_is h f b g c m History e k = h e

  line_by : (line ≡ codes "H") ⊎ (¬ (line ≡ codes "H"))
      → Found (IsWith Forward) (2 ^ 64) ⊎ HasNoneBelow (IsWith Forward) (2 ^ 64)
      → Found (IsWith Back) (2 ^ 64) ⊎ HasNoneBelow (IsWith Back) (2 ^ 64)
      → Found (IsWith Go) (2 ^ 64) ⊎ HasNoneBelow (IsWith Go) (2 ^ 64)
      → Found (IsWith Cpu) cpus ⊎ HasNoneBelow (IsWith Cpu) cpus
      → Found HasRange 1048577 ⊎ HasNoneBelow HasRange 1048577
      → IsCommand cpus line ⊎ (¬ IsCommand cpus line)
  line_by (inl is) f b g c m = inl (command_is History is tt)
  line_by (inr h) (inl f) b g c m = inl (command_is (Forward f.number) f.holds f.below)
  line_by (inr h) (inr f) (inl b) g c m = inl (command_is (Back b.number) b.holds b.below)
  line_by (inr h) (inr f) (inr b) (inl g) c m = inl (command_is (Go g.number) g.holds g.below)
  line_by (inr h) (inr f) (inr b) (inr g) (inl c) m = inl (command_is (Cpu c.number) c.holds c.below)
  line_by (inr h) (inr f) (inr b) (inr g) (inr c) (inl m) =
      inl (command_is (Bytes m.number m.holds.number) m.holds.holds.0 m.holds.holds.1)
  line_by (inr h) (inr f) (inr b) (inr g) (inr c) (inr m) =
      inr (λ is. none_is h f b g c m is.command is.tells.spelled is.tells.known)

  -- a line is a command or none
  pub command_or_not : IsCommand cpus line ⊎ (¬ IsCommand cpus line)
  command_or_not =
      line_by (same_or_not line (codes "H")) (number_or_not Forward (2 ^ 64)) (number_or_not Back (2 ^ 64))
      (number_or_not Go (2 ^ 64)) (number_or_not Cpu cpus) (search_below HasRange count_or_not 1048577)
