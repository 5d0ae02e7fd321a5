-- Commands are read line by line, when each line has been looked at.
use Rattle.std.proofs.Common.{◌≡◌, ℕ, ◌+◌, ◌≤◌, not, List, [], ◌∷◌, ◌++◌, length, drop, map}
use Rattle.std.proofs.Common.{refl, sym, ap, subst, ◌∙◌, All, arith, length-append}
use Rattle.std.specs.Prelude.{◌==◌}
use Rattle.std.proofs.Math.Seq.{drop-append_seam}
use Rattle.std.proofs.lemmas.List.Elements.{All-nil, All-push, All-drop, All-head, filter-append}
use Rattle.tx_journal.specs.Numbers.{Lacks}
use Rattle.step_words.specs.declared.command.StepCommand.{StepCommand}
use Rattle.input_parts.specs.Lines.{lines_of}
use Rattle.step_words.specs.Commands.{command_text, filled, IsKnown, IsFair, AreCommands}
use Rattle.step_words.specs.Commands.{IsFirstBad}
use Rattle.step_words.specs.Faults.{Adds}
use Rattle.input_parts.proofs.Passing.{Passed, nothing_passed, passed_more, at_line, at_last}

-- ---- lines that have been looked at

-- the lines before a place are fair, and the next line has this number
pub record Looked (cpus : ℕ) (text : List ℕ) (from number : ℕ) : Type 0 where
  pub before : List (List ℕ)
  pub passed : Passed text from before
  pub fair : All (IsFair cpus) before
  pub counted : number ≡ length before + 1
  pub few : number ≤ from + 1

pub nothing_looked : (cpus : ℕ) (text : List ℕ) → Looked cpus text 0 1
nothing_looked cpus text = record {
  before = [];
  passed = nothing_passed text;
  fair = All-nil (IsFair cpus);
  counted = refl;
  few = omega arith;
}

module _ (cpus : ℕ) (text : List ℕ) (from number : ℕ) (l : Looked cpus text from number) where
  module _ (line rest : List ℕ) (cut : drop from text ≡ line ++ 10 ∷ rest) (lacks : Lacks 10 line) where
    pub look_more : IsFair cpus line → Looked cpus text (from + (length line + 1)) (number + 1)
    look_more is =
        let size = length-append l.before (line ∷ []) in
        let one : length (line ∷ []) ≡ 1 = refl in
        let counted : number + 1 ≡ length (l.before ++ line ∷ []) + 1 = omega (arith, size, one, l.counted) in
        record {
          before = l.before ++ line ∷ [];
          passed = passed_more text from l.before l.passed line rest cut lacks;
          fair = All-push (IsFair cpus) l.before line l.fair is;
          counted = counted;
          few = omega (arith, l.few);
        }

    pub bad_line : ¬ IsFair cpus line → IsFirstBad cpus text number
    bad_line bad = record {
      before = l.before;
      line = line;
      behind = lines_of rest;
      lines = at_line text from l.before l.passed line rest cut lacks;
      fair = l.fair;
      bad = bad;
      counted = l.counted;
    }

  module _ (lacks : Lacks 10 (drop from text)) where
    pub all_fair : IsFair cpus (drop from text) → All (IsFair cpus) (lines_of text)
    all_fair is =
        subst (All (IsFair cpus)) (sym (at_last text from l.before l.passed lacks))
        (All-push (IsFair cpus) l.before (drop from text) l.fair is)

    pub bad_last : ¬ IsFair cpus (drop from text) → IsFirstBad cpus text number
    bad_last bad = record {
      before = l.before;
      line = drop from text;
      behind = [];
      lines = at_last text from l.before l.passed lacks;
      fair = l.fair;
      bad = bad;
      counted = l.counted;
    }

-- ---- lines that have been read

-- these are the commands of the lines before a place
pub record Read (cpus : ℕ) (text : List ℕ) (from : ℕ) (commands : List StepCommand) : Type 0 where
  pub before : List (List ℕ)
  pub passed : Passed text from before
  pub spelled : filled before ≡ map command_text commands
  pub known : All (IsKnown cpus) commands

pub nothing_read : (cpus : ℕ) (text : List ℕ) → Read cpus text 0 []
nothing_read cpus text = record {
  before = [];
  passed = nothing_passed text;
  spelled = refl;
  known = All-nil (IsKnown cpus);
}

filled_more : (before : List (List ℕ)) (line : List ℕ) → filled (before ++ line ∷ []) ≡ filled before ++ filled (line ∷ [])
filled_more before line = filter-append (λ (l : List ℕ). not (length l == 0)) before (line ∷ [])

-- one among fair lines
fair_one : (cpus : ℕ) (before behind : List (List ℕ)) (line : List ℕ) → All (IsFair cpus) (before ++ line ∷ behind)
    → IsFair cpus line
fair_one cpus before behind line all =
    All-head (IsFair cpus) line behind
    (subst (All (IsFair cpus)) (drop-append_seam before (line ∷ behind))
    (All-drop (IsFair cpus) (length before) (before ++ line ∷ behind) all))

module _ (cpus : ℕ) (text : List ℕ) (from : ℕ) (commands : List StepCommand) (r : Read cpus text from commands) where
  module _ (line rest : List ℕ) (cut : drop from text ≡ line ++ 10 ∷ rest) (lacks : Lacks 10 line) where
    pub line_is_fair : All (IsFair cpus) (lines_of text) → IsFair cpus line
    line_is_fair all =
        fair_one cpus r.before (lines_of rest) line
        (subst (All (IsFair cpus)) (at_line text from r.before r.passed line rest cut lacks) all)

    pub read_more : (after : List StepCommand) → Adds cpus line commands after
        → Read cpus text (from + (length line + 1)) after
    read_more after adds = record {
      before = r.before ++ line ∷ [];
      passed = passed_more text from r.before r.passed line rest cut lacks;
      spelled = filled_more r.before line
          ∙ ap (λ (ls : List (List ℕ)). ls ++ filled (line ∷ [])) r.spelled ∙ sym adds.spelled;
      known = adds.known r.known;
    }

  module _ (lacks : Lacks 10 (drop from text)) where
    pub last_is_fair : All (IsFair cpus) (lines_of text) → IsFair cpus (drop from text)
    last_is_fair all =
        fair_one cpus r.before [] (drop from text)
        (subst (All (IsFair cpus)) (at_last text from r.before r.passed lacks) all)

    pub all_read : (after : List StepCommand) → Adds cpus (drop from text) commands after
        → AreCommands cpus text after
    all_read after adds = record {
      spelled =
          ap filled (at_last text from r.before r.passed lacks) ∙ filled_more r.before (drop from text)
          ∙ ap (λ (ls : List (List ℕ)). ls ++ filled (drop from text ∷ [])) r.spelled ∙ sym adds.spelled;
      known = adds.known r.known;
    }
