-- A text of commands has one reading.
use Rattle.std.proofs.Common.{◌≡◌, ℕ, ◌+◌, ◌<◌, ◌^◌, ◌⊎◌, Bool, not, cond, List, [], ◌∷◌, ◌++◌, length, map}
use Rattle.std.proofs.Common.{refl, sym, ap, ap₂, subst, ◌∙◌, inl, inr, All, arith}
use Rattle.std.specs.Fmt.{decimal}
use Rattle.std.proofs.lemmas.Bool.{ne_eqb}
use Rattle.std.proofs.lemmas.Fmt.{decimal_injective}
use Rattle.std.proofs.lemmas.List.Elements.{All-nil, All-cons, All-head, All-tail}
use Rattle.tx_journal.proofs.Decimals.{same_start}
use Rattle.step_words.specs.declared.command.StepCommand.{StepCommand}
use Rattle.step_words.specs.declared.command.StepCommand.TheVariants.{Forward, Back, Go, Cpu, Bytes, History}
use Rattle.input_parts.specs.Lines.{lines_of}
use Rattle.step_words.specs.Commands.{command_text, filled, AreBytes, IsKnown, IsCommand, IsFair, AreCommands}
use Rattle.step_words.specs.Commands.{IsFirstBad}
use Rattle.step_words.specs.Readings.{HasCommands, HasBadLine}
use Rattle.input_parts.proofs.Lists.{not_among, same_cut, same_lines}
use Rattle.step_words.proofs.Deciding.{command_or_not}
use Rattle.step_words.proofs.Telling.{Opens, opens}

-- ---- one command

bare : (rest : List ℕ) (letter : ℕ) → 72 ∷ [] ≡ letter ∷ 32 ∷ rest → ⊥
bare rest letter is = cc

module _ (cpus : ℕ) (small : cpus < 2 ^ 64) where
  forward_is : (n : ℕ) → n < 2 ^ 64 → (c : StepCommand) → IsKnown cpus c → Opens 70 (decimal n) c → Forward n ≡ c
  forward_is n is (Forward m) known o = ap Forward (decimal_injective n m is known o.1)
  forward_is n is (Back m) known o = absurd (omega arith)
  forward_is n is (Go m) known o = absurd (omega arith)
  forward_is n is (Cpu m) known o = absurd (omega arith)
  forward_is n is (Bytes m k) known o = absurd (omega arith)
  forward_is n is History known o = absurd o

  back_is : (n : ℕ) → n < 2 ^ 64 → (c : StepCommand) → IsKnown cpus c → Opens 66 (decimal n) c → Back n ≡ c
  back_is n is (Forward m) known o = absurd (omega arith)
  back_is n is (Back m) known o = ap Back (decimal_injective n m is known o.1)
  back_is n is (Go m) known o = absurd (omega arith)
  back_is n is (Cpu m) known o = absurd (omega arith)
  back_is n is (Bytes m k) known o = absurd (omega arith)
  back_is n is History known o = absurd o

  gone_is : (n : ℕ) → n < 2 ^ 64 → (c : StepCommand) → IsKnown cpus c → Opens 71 (decimal n) c → Go n ≡ c
  gone_is n is (Forward m) known o = absurd (omega arith)
  gone_is n is (Back m) known o = absurd (omega arith)
  gone_is n is (Go m) known o = ap Go (decimal_injective n m is known o.1)
  gone_is n is (Cpu m) known o = absurd (omega arith)
  gone_is n is (Bytes m k) known o = absurd (omega arith)
  gone_is n is History known o = absurd o

  cpu_is : (n : ℕ) → n < cpus → (c : StepCommand) → IsKnown cpus c → Opens 67 (decimal n) c → Cpu n ≡ c
  cpu_is n is (Forward m) known o = absurd (omega arith)
  cpu_is n is (Back m) known o = absurd (omega arith)
  cpu_is n is (Go m) known o = absurd (omega arith)
  cpu_is n is (Cpu m) known o =
      ap Cpu (decimal_injective n m (omega arith) (omega arith) o.1)
  cpu_is n is (Bytes m k) known o = absurd (omega arith)
  cpu_is n is History known o = absurd o

  shown_is : (first count : ℕ) → AreBytes first count → (c : StepCommand) → IsKnown cpus c
      → Opens 77 (decimal first ++ 32 ∷ decimal count) c → Bytes first count ≡ c
  shown_is first count is (Forward m) known o = absurd (omega arith)
  shown_is first count is (Back m) known o = absurd (omega arith)
  shown_is first count is (Go m) known o = absurd (omega arith)
  shown_is first count is (Cpu m) known o = absurd (omega arith)
  shown_is first count is (Bytes m k) known o =
      let small_first : first < 2 ^ 64 = omega (arith, is.high) in
      let small_m : m < 2 ^ 64 = omega (arith, known.high) in
      let small_count : count < 2 ^ 64 = omega (arith, is.few) in
      let small_k : k < 2 ^ 64 = omega (arith, known.few) in
      let start = same_start (decimal first ++ 32 ∷ decimal count) first m (decimal count) (decimal k) small_first
      small_m refl o.1 in
      let counts : count ≡ k = decimal_injective count k small_count small_k start.rest in
      ap₂ (λ (a b : ℕ). Bytes a b) start.number counts
  shown_is first count is History known o = absurd o

  history_is : (c : StepCommand) → 72 ∷ [] ≡ command_text c → History ≡ c
  history_is (Forward n) is = absurd (bare (decimal n) 70 is)
  history_is (Back n) is = absurd (bare (decimal n) 66 is)
  history_is (Go n) is = absurd (bare (decimal n) 71 is)
  history_is (Cpu n) is = absurd (bare (decimal n) 67 is)
  history_is (Bytes m k) is = absurd (bare (decimal m ++ 32 ∷ decimal k) 77 is)
  history_is History is = refl

  -- a text is that of one command
  same_command : (c d : StepCommand) → IsKnown cpus c → IsKnown cpus d → command_text c ≡ command_text d → c ≡ d
  same_command (Forward n) d k l is = forward_is n k d l (opens 70 (decimal n) d is)
  same_command (Back n) d k l is = back_is n k d l (opens 66 (decimal n) d is)
  same_command (Go n) d k l is = gone_is n k d l (opens 71 (decimal n) d is)
  same_command (Cpu n) d k l is = cpu_is n k d l (opens 67 (decimal n) d is)
  same_command (Bytes f n) d k l is = shown_is f n k d l (opens 77 (decimal f ++ 32 ∷ decimal n) d is)
  same_command History d k l is = history_is d is

  texts_same : (cs ds : List StepCommand) → All (IsKnown cpus) cs → All (IsKnown cpus) ds
      → map command_text cs ≡ map command_text ds → cs ≡ ds
  texts_same [] [] k l is = refl
  texts_same [] (d ∷ ds) k l is = absurd (let never : ⊥ = cc in never)
  texts_same (c ∷ cs) [] k l is = absurd (let never : ⊥ = cc in never)
  texts_same (c ∷ cs) (d ∷ ds) k l is =
      let e = same_lines (command_text c) (command_text d) (map command_text cs) (map command_text ds) is in
      let one = same_command c d (All-head (IsKnown cpus) c cs k) (All-head (IsKnown cpus) d ds l) e.head in
      let more =
      texts_same cs ds (All-tail (IsKnown cpus) c cs k) (All-tail (IsKnown cpus) d ds l) e.rest in
      ap₂ (λ (z : StepCommand) (zs : List StepCommand). z ∷ zs) one more

  -- a text has one list of commands
  pub same_commands : (text : List ℕ) (cs ds : List StepCommand) → AreCommands cpus text cs
      → AreCommands cpus text ds → cs ≡ ds
  same_commands text cs ds a b = texts_same cs ds a.known b.known (sym a.spelled ∙ b.spelled)

-- ---- all lines

filled_none : (ls : List (List ℕ)) → filled ([] ∷ ls) ≡ filled ls
filled_none ls = refl

filled_some : (b : ℕ) (bs : List ℕ) (ls : List (List ℕ)) → filled ((b ∷ bs) ∷ ls) ≡ (b ∷ bs) ∷ filled ls
filled_some b bs ls =
    ap (λ (t : Bool). cond (not t) ((b ∷ bs) ∷ filled ls) (filled ls)) (ne_eqb (length (b ∷ bs)) 0 (λ e. omega arith))

module _ (cpus : ℕ) where
  -- lines that are commands are fair
  all_fair : (lines : List (List ℕ)) (cs : List StepCommand) → filled lines ≡ map command_text cs
      → All (IsKnown cpus) cs → All (IsFair cpus) lines
  all_fair [] cs is known = All-nil (IsFair cpus)
  all_fair ([] ∷ ls) cs is known =
      All-cons (IsFair cpus) [] ls (inl refl) (all_fair ls cs (sym (filled_none ls) ∙ is) known)
  all_fair ((b ∷ bs) ∷ ls) [] is known =
      let e : (b ∷ bs) ∷ filled ls ≡ [] = sym (filled_some b bs ls) ∙ is in
      absurd (let never : ⊥ = cc in never)
  all_fair ((b ∷ bs) ∷ ls) (c ∷ cs) is known =
      let e = same_lines (b ∷ bs) (command_text c) (filled ls) (map command_text cs)
      (sym (filled_some b bs ls) ∙ is) in
      All-cons (IsFair cpus) (b ∷ bs) ls
      (inr (record {
        command = c;
        tells = record { spelled = e.head; known = All-head (IsKnown cpus) c cs known };
      }))
      (all_fair ls cs e.rest (All-tail (IsKnown cpus) c cs known))

  -- no text has commands and a bad line
  pub never_both : (text : List ℕ) (cs : List StepCommand) (number : ℕ) → AreCommands cpus text cs
      → IsFirstBad cpus text number → ⊥
  never_both text cs number a b =
      b.bad (not_among (IsFair cpus) b.before b.line b.behind
      (subst (All (IsFair cpus)) b.lines (all_fair (lines_of text) cs a.spelled a.known)))

  -- a text has one first bad line
  pub same_number : (text : List ℕ) (n m : ℕ) → IsFirstBad cpus text n → IsFirstBad cpus text m → n ≡ m
  same_number text n m a b =
      let s = same_cut (IsFair cpus) a.before b.before a.line b.line a.behind b.behind a.fair b.fair a.bad b.bad
      (sym a.lines ∙ b.lines) in
      a.counted ∙ ap (λ (ls : List (List ℕ)). length ls + 1) s.before ∙ sym b.counted

  record Stopped (lines : List (List ℕ)) : Type 0 where
    pub before : List (List ℕ)
    pub line : List ℕ
    pub behind : List (List ℕ)
    pub is : lines ≡ before ++ line ∷ behind
    pub fair : All (IsFair cpus) before
    pub bad : ¬ IsFair cpus line

  record Walked (lines : List (List ℕ)) : Type 0 where
    pub commands : List StepCommand
    pub spelled : filled lines ≡ map command_text commands
    pub known : All (IsKnown cpus) commands

  later : (l : List ℕ) (ls : List (List ℕ)) → IsFair cpus l → Stopped ls → Stopped (l ∷ ls)
  later l ls fair s = record {
    before = l ∷ s.before;
    line = s.line;
    behind = s.behind;
    is = ap (λ (xs : List (List ℕ)). l ∷ xs) s.is;
    fair = All-cons (IsFair cpus) l s.before fair s.fair;
    bad = s.bad;
  }

  empty_more : (ls : List (List ℕ)) → Walked ls ⊎ Stopped ls → Walked ([] ∷ ls) ⊎ Stopped ([] ∷ ls)
  empty_more ls (inl w) =
      inl record { commands = w.commands; spelled = filled_none ls ∙ w.spelled; known = w.known }
  empty_more ls (inr s) = inr (later [] ls (inl refl) s)

  unfair : (b : ℕ) (bs : List ℕ) → ¬ IsCommand cpus (b ∷ bs) → ¬ IsFair cpus (b ∷ bs)
  unfair b bs none (inl is) = let never : ⊥ = cc in never
  unfair b bs none (inr is) = none is

  some_more : (b : ℕ) (bs : List ℕ) (ls : List (List ℕ))
      → IsCommand cpus (b ∷ bs) ⊎ (¬ IsCommand cpus (b ∷ bs)) → Walked ls ⊎ Stopped ls
      → Walked ((b ∷ bs) ∷ ls) ⊎ Stopped ((b ∷ bs) ∷ ls)
  some_more b bs ls (inl is) (inl w) = inl record {
    commands = is.command ∷ w.commands;
    spelled = filled_some b bs ls
        ∙ ap₂ (λ (z : List ℕ) (zs : List (List ℕ)). z ∷ zs) is.tells.spelled w.spelled;
    known = All-cons (IsKnown cpus) is.command w.commands is.tells.known w.known;
  }
  some_more b bs ls (inl is) (inr s) = inr (later (b ∷ bs) ls (inr is) s)
  some_more b bs ls (inr none) w = inr record {
    before = [];
    line = b ∷ bs;
    behind = ls;
    is = refl;
    fair = All-nil (IsFair cpus);
    bad = unfair b bs none;
  }

  walk : (lines : List (List ℕ)) → Walked lines ⊎ Stopped lines
  walk [] = inl record { commands = []; spelled = refl; known = All-nil (IsKnown cpus) }
  walk ([] ∷ ls) = empty_more ls (walk ls)
  walk ((b ∷ bs) ∷ ls) = some_more b bs ls (command_or_not cpus (b ∷ bs)) (walk ls)

  read_by : (text : List ℕ) → Walked (lines_of text) ⊎ Stopped (lines_of text)
      → HasCommands cpus text ⊎ HasBadLine cpus text
  read_by text (inl w) = inl record {
    commands = w.commands;
    are = record { spelled = w.spelled; known = w.known };
  }
  read_by text (inr s) = inr record {
    number = length s.before + 1;
    first = record {
      before = s.before;
      line = s.line;
      behind = s.behind;
      lines = s.is;
      fair = s.fair;
      bad = s.bad;
      counted = refl;
    };
  }

  -- each text has commands or a first bad line
  pub one_holds : (text : List ℕ) → HasCommands cpus text ⊎ HasBadLine cpus text
  one_holds text = read_by text (walk (lines_of text))
