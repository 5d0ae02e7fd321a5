-- What a line tells by its letter.
use Rattle.std.proofs.Common.{◌≡◌, ◌≢◌, ℕ, ◌<◌, ◌≤◌, ◌^◌, List, [], ◌∷◌, ◌++◌, sym, ap, subst, ◌∙◌}
use Rattle.std.proofs.Common.{arith}
use Rattle.std.specs.Fmt.{decimal}
use Rattle.std.proofs.lemmas.Fmt.{decimal_injective}
use Rattle.tx_journal.specs.Numbers.{Lacks}
use Rattle.tx_journal.proofs.Decimals.{SameCut, same_cut, lacks_number, lacks_not_there}
use Rattle.step_words.specs.declared.command.StepCommand.{StepCommand}
use Rattle.step_words.specs.declared.command.StepCommand.TheVariants.{Forward, Back, Go, Cpu, Bytes, History}
use Rattle.step_words.specs.Commands.{command_text, AreBytes}

-- ---- numbers

-- a text that is a number which is too great is none below a limit
pub too_great : (n limit : ℕ) (text : List ℕ) → n < 2 ^ 64 → limit ≤ n → text ≡ decimal n
    → (m : ℕ) → m < limit → text ≢ decimal m
too_great n limit text small great is m below also =
    let same : m ≡ n = decimal_injective m n (omega arith) small (sym also ∙ is) in
    omega arith

-- ---- a range of bytes

range_cut : (text front behind : List ℕ) (first count : ℕ) → text ≡ front ++ 32 ∷ behind → Lacks 32 front
    → first < 2 ^ 64 → text ≡ decimal first ++ 32 ∷ decimal count
    → SameCut front (decimal first) behind (decimal count)
range_cut text front behind first count cut lacks small is =
    same_cut 32 front (decimal first) behind (decimal count) lacks (lacks_number 32 first small (omega arith))
    (sym cut ∙ is)

-- no text without a blank
pub no_range : (text : List ℕ) → Lacks 32 text → (first count : ℕ) → text ≢ decimal first ++ 32 ∷ decimal count
no_range text lacks first count is =
    lacks_not_there 32 (decimal first) (decimal count) (subst (Lacks 32) is lacks)

module _ (text front behind : List ℕ) (cut : text ≡ front ++ 32 ∷ behind) (lacks : Lacks 32 front) where
  -- no text whose front is no number
  pub no_first : ((n : ℕ) → n < 2 ^ 64 → front ≢ decimal n) → (first count : ℕ) → AreBytes first count
      → text ≢ decimal first ++ 32 ∷ decimal count
  no_first none first count bytes is =
      let small : first < 2 ^ 64 = omega (arith, bytes.high) in
      none first small (range_cut text front behind first count cut lacks small is).front

  -- no text whose rest is none
  pub no_count : ((n : ℕ) → n < 2 ^ 64 → behind ≢ decimal n) → (first count : ℕ) → AreBytes first count
      → text ≢ decimal first ++ 32 ∷ decimal count
  no_count none first count bytes is =
      let small : first < 2 ^ 64 = omega (arith, bytes.high) in
      let few : count < 2 ^ 64 = omega (arith, bytes.few) in
      none count few (range_cut text front behind first count cut lacks small is).behind

  -- and none of other bytes
  pub no_bytes : (n k : ℕ) → n < 2 ^ 64 → k < 2 ^ 64 → front ≡ decimal n → behind ≡ decimal k
      → ¬ AreBytes n k → (first count : ℕ) → AreBytes first count → text ≢ decimal first ++ 32 ∷ decimal count
  no_bytes n k n_small k_small front_is behind_is other first count bytes is =
      let small : first < 2 ^ 64 = omega (arith, bytes.high) in
      let few : count < 2 ^ 64 = omega (arith, bytes.few) in
      let parts = range_cut text front behind first count cut lacks small is in
      let firsts : first ≡ n = decimal_injective first n small n_small (sym parts.front ∙ front_is) in
      let counts : count ≡ k = decimal_injective count k few k_small (sym parts.behind ∙ behind_is) in
      other (subst (λ c. AreBytes n c) counts (subst (λ f. AreBytes f count) firsts bytes))

  -- the range that a text is
  pub range_is : (n k : ℕ) → front ≡ decimal n → behind ≡ decimal k → text ≡ decimal n ++ 32 ∷ decimal k
  range_is n k front_is behind_is =
      cut ∙ ap (λ (t : List ℕ). t ++ 32 ∷ behind) front_is ∙ ap (λ (t : List ℕ). decimal n ++ 32 ∷ t) behind_is

-- ---- letters

-- a command is written with this letter, and this behind its blank
abbrev pub Opens : ℕ → List ℕ → StepCommand → Type 0
Opens letter rest (Forward n) = (letter ≡ 70) × (rest ≡ decimal n)
Opens letter rest (Back n) = (letter ≡ 66) × (rest ≡ decimal n)
Opens letter rest (Go n) = (letter ≡ 71) × (rest ≡ decimal n)
Opens letter rest (Cpu cpu) = (letter ≡ 67) × (rest ≡ decimal cpu)
Opens letter rest (Bytes first count) = (letter ≡ 77) × (rest ≡ decimal first ++ 32 ∷ decimal count)
Opens letter rest History = ⊥

lettered : (letter other : ℕ) (rest more : List ℕ) → letter ∷ 32 ∷ rest ≡ other ∷ 32 ∷ more
    → (letter ≡ other) × (rest ≡ more)
lettered letter other rest more is =
    let first : letter ≡ other = cc in
    let others : rest ≡ more = cc in
    (first, others)

bare : (letter : ℕ) (rest : List ℕ) → letter ∷ 32 ∷ rest ≡ 72 ∷ [] → ⊥
bare letter rest is = cc

pub opens : (letter : ℕ) (rest : List ℕ) (c : StepCommand) → letter ∷ 32 ∷ rest ≡ command_text c
    → Opens letter rest c
opens letter rest (Forward n) is = lettered letter 70 rest (decimal n) is
opens letter rest (Back n) is = lettered letter 66 rest (decimal n) is
opens letter rest (Go n) is = lettered letter 71 rest (decimal n) is
opens letter rest (Cpu n) is = lettered letter 67 rest (decimal n) is
opens letter rest (Bytes first count) is = lettered letter 77 rest (decimal first ++ 32 ∷ decimal count) is
opens letter rest History is = bare letter rest is
