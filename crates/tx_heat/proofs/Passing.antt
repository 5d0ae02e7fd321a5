-- What is kept of one CPU behind an event, and of all of them where that of one is replaced.
use Rattle.std.proofs.Common.{◌≡◌, ◌≢◌, ℕ, ◌-◌, ◌<◌, ◌≤◌, true, false, List, [], ◌∷◌, ◌++◌, Some}
use Rattle.std.proofs.Common.{refl, sym, ap, ◌∙◌, subst, arith, length, length-append, set, get_or}
use Rattle.std.specs.Prelude.{nat_lt, slice_get}
use Rattle.std.proofs.lemmas.Bool.{cases_eq, cases_lt, cases_Bool}
use Rattle.std.proofs.lemmas.List.{length-set, get_or_append_left, get_or-append_right}
use Rattle.std.proofs.lemmas.Option.{slice_get-get_or, slice_get_within, get_or_from_slice_get}
use borrow.Enum.Arm.{by_way}
use Rattle.z_regs.specs.declared.ranges.Range.{Range}
use Rattle.tx_progress.proofs.Parts.{not_live}
use Rattle.tx_meaning.specs.Limits.{Setting}
use Rattle.tx_meaning.specs.State.{State, is_live, attempt_of}
use Rattle.tx_schedule.specs.Wanted.{wanted}
use Rattle.tx_heat.specs.Marks.{AreMarksOf}
use Rattle.tx_heat.specs.Octowords.{are_apart}
use Rattle.tx_heat.specs.Watched.{Tracked, IsUnused, IsTrack, AreTracks, SpeaksFor, Passes, StaysBeside}
use Rattle.z_regs.proofs.Elements.{put_is_there}
use Rattle.tx_heat.proofs.Counted.{set_other}
use Rattle.tx_heat.proofs.Marked.{apart_from_nothing}
use Rattle.tx_heat.proofs.Tracked.{touches_nothing}

-- what a CPU asks for next is told
pub asked_track : (m : Setting) (s : State) (j : ℕ) (old new : Tracked) → new ≡ record old { asked = wanted m s j }
    → IsTrack m s j old → IsTrack m s j new
asked_track m s j old new is track =
    subst (IsTrack m s j) (sym is) record {
      marks = track.marks;
      completed = track.completed;
      live = track.live;
      asked = λ known. refl;
    }

-- nothing is kept of a CPU that has no live attempt
pub unused_track : (m : Setting) (s : State) (j : ℕ) (t : Tracked) → IsUnused t → is_live s j ≡ false
    → IsTrack m s j t
unused_track m s j t unused off = record {
  marks = subst (AreMarksOf t.marks) (sym (touches_nothing m s j off)) unused.marks;
  completed = unused.completed ∙ sym (not_live (s.numbers j).completed off);
  live = λ known. absurd (let x : true ≡ false = sym known ∙ unused.known in cc);
  asked = λ known. absurd (let x : true ≡ false = sym known ∙ unused.known in cc);
}

module _ (m : Setting) (s after : State) (cpu j : ℕ) (asked : List Range) (passes : Passes m s after cpu asked j)
    (old : Tracked) (track : IsTrack m s j old) where
  -- an attempt that has completed as many instructions has touched the same
  module _ (same : (after.numbers j).completed ≡ (s.numbers j).completed) where
    -- it was live where it is
    was_live : is_live after j ≡ true → is_live s j ≡ true
    was_live live = ap (nat_lt 0) (sym same) ∙ live

    -- and is where it was
    now_live : is_live s j ≡ true → is_live after j ≡ true
    now_live live = ap (nat_lt 0) same ∙ live

    -- so it has touched what it had
    same_touched : (attempt_of m s j).touched ≡ (attempt_of m after j).touched
    same_touched =
        by_way (cases_Bool (is_live after j)) (λ live. sym (passes.stays live same))
        (λ off. touches_nothing m s j (ap (nat_lt 0) (sym same) ∙ off) ∙ sym (touches_nothing m after j off))

    -- and its CPU asks for the same
    pub beside_track : IsTrack m after j old
    beside_track = record {
      marks = subst (AreMarksOf old.marks) same_touched track.marks;
      completed = track.completed ∙ sym same;
      live = λ known. now_live (track.live known);
      asked = λ known. track.asked known ∙ sym (passes.wants (track.live known) same);
    }

    -- of the event's CPU this is known, where its attempt is live
    pub stay_track : (new : Tracked) → new ≡ record old { known = nat_lt 0 old.completed }
        → (is_live s j ≡ true → old.asked ≡ wanted m s j) → IsTrack m after j new
    stay_track new is speaks =
        let live = λ (known : nat_lt 0 old.completed ≡ true). ap (nat_lt 0) (sym track.completed) ∙ known in
        subst (IsTrack m after j) (sym is) record {
          marks = subst (AreMarksOf old.marks) same_touched track.marks;
          completed = track.completed ∙ sym same;
          live = λ known. now_live (live known);
          asked = λ known. speaks (live known) ∙ sym (passes.wants (live known) same);
        }

  -- one that is begun has touched nothing
  pub begin_track : (new : Tracked) (n : ℕ) → new ≡ record old { completed = n; known = false }
      → n ≡ (after.numbers j).completed → old.completed ≡ 0 → IsTrack m after j new
  begin_track new n is now none =
      let off : is_live s j ≡ false = ap (nat_lt 0) (sym track.completed ∙ none) in
      subst (IsTrack m after j) (sym is) record {
        marks = subst (AreMarksOf old.marks) (touches_nothing m s j off ∙ sym (passes.begins off)) track.marks;
        completed = now;
        live = λ known. absurd (let x : false ≡ true = known in cc);
        asked = λ known. absurd (let x : false ≡ true = known in cc);
      }

  -- one that has completed more has touched more
  pub more_track : (new : Tracked) → j ≡ cpu → old.asked ≡ asked
      → ((past : List Range) → AreMarksOf old.marks past → AreMarksOf new.marks (past ++ old.asked))
      → new.completed ≡ (after.numbers j).completed → new.known ≡ false → is_live s j ≡ true
      → is_live after j ≡ true → (after.numbers j).completed ≢ (s.numbers j).completed → IsTrack m after j new
  more_track new own told marks now none was live other = record {
    marks = subst (AreMarksOf new.marks)
        (ap (λ x. (attempt_of m s j).touched ++ x) told ∙ sym (passes.more own was live other))
        (marks (attempt_of m s j).touched track.marks);
    completed = now;
    live = λ known. absurd (let x : true ≡ false = sym known ∙ none in cc);
    asked = λ known. absurd (let x : true ≡ false = sym known ∙ none in cc);
  }

-- there is something at each place
pub present : (tracks : List Tracked) (j : ℕ) → j < length tracks → (t : Tracked) × (slice_get tracks j ≡ Some t)
present [] j low = absurd (omega arith)
present (x ∷ rest) j low =
    (get_or (x ∷ rest) j x, slice_get-get_or (x ∷ rest) j x low)

-- what is kept of a CPU is what stands at its place
pub kept_at : (tracks : List Tracked) (k : ℕ) (old : Tracked) → k < length tracks → get_or tracks k old ≡ old
    → slice_get tracks k ≡ Some old
kept_at tracks k old lt is = slice_get-get_or tracks k old lt ∙ ap (λ x. Some x) is

-- what is true of each one in a list, and of one more
pub pushed : (P : Tracked → Type 0) (xs : List Tracked) (x : Tracked)
    → ((j : ℕ) (t : Tracked) → slice_get xs j ≡ Some t → P t) → P x
    → (j : ℕ) (t : Tracked) → slice_get (xs ++ x ∷ []) j ≡ Some t → P t
pushed P xs x before here j t e =
    let inside = slice_get_within (xs ++ x ∷ []) j t e in
    let size = length-append xs (x ∷ []) in
    let there : get_or (xs ++ x ∷ []) j t ≡ t = get_or_from_slice_get (xs ++ x ∷ []) j t t e in
    by_way (cases_lt j (length xs))
    (λ low. before j t (kept_at xs j t low (sym (get_or_append_left xs (x ∷ []) t j low) ∙ there)))
    (λ past.
    let last : j - length xs ≡ 0 = omega (arith, past, inside, size) in
    let it : x ≡ t =
    ap (λ k. get_or (x ∷ []) k t) (sym last)
    ∙ sym (get_or-append_right xs (x ∷ []) (length xs) j t refl past) ∙ there in
    subst P it here)

module _ (m : Setting) (s : State) (tracks : List Tracked) (k : ℕ) (new : Tracked) (lt : k < length tracks) where
  -- what is kept of one CPU is replaced
  at_each : (P : ℕ → Tracked → Type 0) → P k new
      → ((j : ℕ) (t : Tracked) → j ≢ k → slice_get tracks j ≡ Some t → P j t)
      → (j : ℕ) (t : Tracked) → slice_get (set tracks k new) j ≡ Some t → P j t
  at_each P here others j t e =
      by_way (cases_eq j k)
      (λ same.
      let there : Some new ≡ Some t =
      sym (put_is_there tracks k new lt) ∙ ap (slice_get (set tracks k new)) (sym same) ∙ e in
      let it : new ≡ t = cc in
      subst (λ x. P x t) (sym same) (subst (P k) it here))
      (λ ne.
      let inside : j < length (set tracks k new) = slice_get_within (set tracks k new) j t e in
      let low : j < length tracks = omega (arith, inside, length-set tracks k new) in
      others j t ne (sym (set_other tracks k j new low ne) ∙ e))

  pub put_track : AreTracks m s tracks → IsTrack m s k new → AreTracks m s (set tracks k new)
  put_track all here = record {
    each = at_each (IsTrack m s) here (λ j t ne e. all.each j t e);
    beyond = λ j le. all.beyond j (omega (arith, le, length-set tracks k new));
  }

  -- behind an event that ends no attempt of another CPU
  pub own_track : (after : State) (asked : List Range) → ((j : ℕ) → Passes m s after k asked j)
      → StaysBeside s after k → AreTracks m s tracks → IsTrack m after k new → AreTracks m after (set tracks k new)
  own_track after asked passes beside all here = record {
    each = at_each (IsTrack m after) here (λ j t ne e.
        beside_track m s after k j asked (passes j) t (all.each j t e) (beside.same j ne));
    beyond = λ j le.
        let past : length tracks ≤ j = omega (arith, le, length-set tracks k new) in
        let ne : j ≢ k = omega (arith, past, lt) in
        ap (nat_lt 0) (beside.same j ne) ∙ all.beyond j past;
  }

-- ---- what speaks for what a CPU asks for

-- what it asks for
pub speaks_itself : (m : Setting) (s : State) (cpu : ℕ) (asked : List Range) → asked ≡ wanted m s cpu
    → SpeaksFor m s cpu asked
speaks_itself m s cpu asked is = record {
  apart = λ holder line. ap (λ x. are_apart x (attempt_of m s holder).touched line) is;
  own = λ live. is;
}

-- anything, where no CPU has a live attempt
pub speaks_for_nobody : (m : Setting) (s : State) (cpu : ℕ) (asked : List Range)
    → ((j : ℕ) → is_live s j ≡ false) → SpeaksFor m s cpu asked
speaks_for_nobody m s cpu asked none = record {
  apart = λ holder line.
      ap (λ x. are_apart asked x line) (touches_nothing m s holder (none holder))
      ∙ apart_from_nothing asked line
      ∙ sym (ap (λ x. are_apart (wanted m s cpu) x line) (touches_nothing m s holder (none holder))
      ∙ apart_from_nothing (wanted m s cpu) line);
  own = λ live. absurd (let x : true ≡ false = sym live ∙ none cpu in cc);
}

-- by what is kept of all CPUs
pub all_rest : (m : Setting) (s : State) (tracks : List Tracked) → AreTracks m s tracks
    → ((j : ℕ) (t : Tracked) → slice_get tracks j ≡ Some t → t.completed ≡ 0) → (j : ℕ) → is_live s j ≡ false
all_rest m s tracks all none j =
    by_way (cases_lt j (length tracks))
    (λ low.
    let at = present tracks j low in
    ap (nat_lt 0) (sym (all.each j at.0 at.1).completed ∙ none j at.0 at.1))
    (λ past. all.beyond j past)
