-- Histories of one entry more.
use Rattle.std.proofs.Common.{◌≡◌, ℕ, suc, ◌+◌, ◌<◌, ◌≤◌, arith, subst, List, [], ◌∷◌, ◌++◌, length, Some, refl, sym, ap, ap₂, ◌∙◌}
use Rattle.std.proofs.Common.{get_or}
use Rattle.std.specs.Prelude.{take}
use Rattle.std.proofs.Math.Seq.{take-suc}
use Rattle.std.proofs.lemmas.List.{map-append, length-map, length-take-le, get_or-take}
use Rattle.std.proofs.lemmas.List.Elements.{All-append, All-cons, All-nil}
use Rattle.tx_journal.specs.Content.{Content}
use Rattle.tx_journal.specs.Lines.{entry_text}
use Rattle.tx_journal.specs.Sound.{IsSound}
use Rattle.tx_journal.specs.declared.entries.Entry.{Entry}
use Rattle.tx_serial.specs.Apply.{apply}
use Rattle.tx_serial.specs.Flat.{FlatState}
use Rattle.tx_serial.specs.History.{replay_from, start_of}
use Rattle.tx_serial.proofs.Entries.{replay_twice}
use Rattle.report_form.specs.Text.{lines_of, IsLineAt}
use Rattle.tx_replay.specs.declared.ends.Ends.{Ends}
use Rattle.tx_replay.specs.Ends.{AreEnds}
use Rattle.tx_replay.specs.Replay.{IsReplay, IsReplayed, IsFirstMisfit, NoneFits}

-- no entry yet
pub nothing_read : (image : Content) (lines : List (List ℕ)) (f : FlatState) → f ≡ start_of image
    → IsReplay image (take 0 lines) [] f
unfolding replay_from
nothing_read image lines f is = record { sound = All-nil IsSound; texts = refl; replayed = ap Some (sym is) }

one_entry : (e : Entry) (f g : FlatState) → apply f e ≡ Some g → replay_from (e ∷ []) (Some f) ≡ Some g
unfolding replay_from
one_entry e f g h = h

-- and one more
pub one_more : (image : Content) (lines : List (List ℕ)) (k : ℕ) (es : List Entry) (f g : FlatState)
    (e : Entry) → k < length lines → IsReplay image (take k lines) es f → IsSound e → entry_text e ≡ get_or lines k []
    → apply f e ≡ Some g → IsReplay image (take (suc k) lines) (es ++ e ∷ []) g
one_more image lines k es f g e within before sound text fits = record {
  sound = All-append IsSound es (e ∷ []) before.sound (All-cons IsSound e [] sound (All-nil IsSound));
  texts =
      map-append entry_text es (e ∷ [])
      ∙ ap₂ (λ (xs : List (List ℕ)) (x : List ℕ). xs ++ x ∷ []) before.texts text
      ∙ sym (take-suc lines k [] within);
  replayed =
      replay_twice es (e ∷ []) (Some (start_of image))
      ∙ ap (replay_from (e ∷ [])) before.replayed
      ∙ one_entry e f g fits;
}

-- ---- with what has ended

-- no more entries than lines
pub entries_few : (image : Content) (lines : List (List ℕ)) (k : ℕ) (es : List Entry) (f : FlatState) → k ≤ length lines
    → IsReplay image (take k lines) es f → length es ≡ k
entries_few image lines k es f within h =
    sym (length-map es entry_text) ∙ ap (λ (ls : List (List ℕ)). length ls) h.texts ∙ length-take-le k lines within

-- one of the first lines of a text
pub line_read : (text : List ℕ) (count k at : ℕ) (line : List ℕ) → k < count → at ≡ k → IsLineAt text at line
    → get_or (take count (lines_of text)) k [] ≡ line
line_read text count k at line there is here =
    get_or-take count (lines_of text) k [] there ∙ ap (λ n. get_or (lines_of text) n []) (sym is) ∙ here.is

pub none_replayed : (image : Content) (lines : List (List ℕ)) (f : FlatState) (cpus : ℕ) (ends : Ends)
    → f ≡ start_of image → cpus ≡ length image.cpus → AreEnds [] cpus ends → IsReplayed image (take 0 lines) f ends
none_replayed image lines f cpus ends is many none = record {
  entries = [];
  replay = nothing_read image lines f is;
  ended = subst (λ n. AreEnds [] n ends) many none;
}

pub one_replayed : (image : Content) (lines : List (List ℕ)) (k : ℕ) (f g : FlatState) (e : Entry)
    (olds news : Ends) → k < length lines → IsReplayed image (take k lines) f olds
    → IsSound e → entry_text e ≡ get_or lines k [] → apply f e ≡ Some g
    → ((h : List Entry) → AreEnds h (length image.cpus) olds → AreEnds (h ++ e ∷ []) (length image.cpus) news)
    → IsReplayed image (take (k + 1) lines) g news
one_replayed image lines k f g e olds news within before sound text fits more =
    let next : suc k ≡ k + 1 = omega arith in
    record {
      entries = before.entries ++ e ∷ [];
      replay =
          subst (λ n. IsReplay image (take n lines) (before.entries ++ e ∷ []) g) next
          (one_more image lines k before.entries f g e within before.replay sound text fits);
      ended = more before.entries before.ended;
    }

-- a line that no entry has which fits
pub misfit_found : (image : Content) (lines : List (List ℕ)) (k : ℕ) (f : FlatState) (ends : Ends) (line : List ℕ)
    → k < length lines → IsReplayed image (take k lines) f ends → get_or lines k [] ≡ line → NoneFits f line
    → IsFirstMisfit image lines (k + 1)
misfit_found image lines k f ends line within before is none = record {
  before = k;
  counted = refl;
  within = within;
  entries = before.entries;
  after = f;
  replays = before.replay;
  none = subst (NoneFits f) (sym is) none;
}
