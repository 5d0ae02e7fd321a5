-- Lines that are given up and granted: an exclusive holder stays alone, and what live attempts have touched
-- stays held.
use Rattle.std.proofs.Common.{◌≡◌, ◌≢◌, ℕ, ◌<◌, ◌≤◌, Bool, true, false, eqb, List, [], ◌∷◌, Option, Some}
use Rattle.std.proofs.Common.{None, is_some, refl, sym, ap, ◌∙◌, arith, ◌⊎◌, inl, inr}
use Rattle.std.specs.Prelude.{◌&&◌, ◌||◌, not, filter}
use Rattle.std.specs.List.{range_with_len}
use Rattle.std.proofs.lemmas.Bool.{cases_Bool, cases_eq, cond_both, eqb-true, and_parts, cond-true}
use Rattle.std.proofs.lemmas.Bool.{cond-false, not-true}
use Rattle.std.proofs.lemmas.Bool.{or_parts}
use borrow.Enum.Arm.{by_way}
use Rattle.line_table.specs.declared.table.Mode.{Mode}
use Rattle.line_table.specs.declared.table.Mode.TheVariants.{Shared, Exclusive}
use Rattle.line_table.specs.Sizes.{storage_lines}
use Rattle.line_table.specs.Holders.{Holders, holding, is_against}
use Rattle.line_table.proofs.Seen.{holding_here}
use Rattle.tx_footprint.specs.Touched.{Sets}
use Rattle.tx_meaning.specs.declared.asking.Need.{Need}
use Rattle.tx_meaning.specs.Changes.{left_to, is_needed, is_spare, spare_line, lowest, giving_up, with_room}
use Rattle.tx_meaning.specs.Changes.{has_room, granting}
use Rattle.tx_meaning.specs.Asking.{is_there}

-- ---- one place of the table

pub holding_case : (held : Holders) (cpu line : ℕ) (mode : Option Mode) (c l : ℕ) (P : Option Mode → Type 0)
    → (c ≡ cpu → l ≡ line → P mode) → P (held c l) → P (holding held cpu line mode c l)
holding_case held cpu line mode c l P here other =
    cond_both (eqb c cpu && eqb l line) mode (held c l) P
    (λ e. let both = and_parts (eqb c cpu) (eqb l line) e in
    here (eqb-true c cpu both.0) (eqb-true l line both.1)) (λ e. other)

-- ---- what holds

-- by the number of CPUs, and what the live attempt of each has touched
pub record Holds (cpus : ℕ) (held : Holders) (touched : ℕ → Sets) : Type 0 where
  pub alone : (i other line : ℕ) → held i line ≡ Some Exclusive → other ≢ i → held other line ≡ None
  pub stored : (i line : ℕ) → (touched i).stored line ≡ true → held i line ≡ Some Exclusive
  pub fetched : (i line : ℕ) → (touched i).fetched line ≡ true → is_some (held i line) ≡ true
  pub known : (i line : ℕ) → cpus ≤ i → held i line ≡ None

-- ---- a line that is given up

-- the request is of no matter to this CPU's attempt
pub record IsClear (sets : Sets) (line : ℕ) (mode : Mode) : Type 0 where
  pub not_stored : sets.stored line ≡ true → ⊥
  pub not_fetched : mode ≡ Exclusive → sets.fetched line ≡ true → ⊥

not_left : (mode : Mode) → left_to mode ≡ Some Exclusive → ⊥
not_left Shared h = cc
not_left Exclusive h = cc

none_is_not_against : (mode : Mode) (h : Option Mode) → h ≡ None → is_against mode h ≡ true → ⊥
none_is_not_against mode h e s = let n : false ≡ true = ap (is_against mode) (sym e) ∙ s in cc

some_left : (mode : Mode) → (mode ≡ Exclusive → ⊥) → is_some (left_to mode) ≡ true
some_left Shared h = refl
some_left Exclusive h = absurd (h refl)

pub yielding_holds : (cpus : ℕ) (held : Holders) (touched : ℕ → Sets) (j line : ℕ) (mode : Mode)
    → Holds cpus held touched → IsClear (touched j) line mode → is_against mode (held j line) ≡ true
    → Holds cpus (holding held j line (left_to mode)) touched
yielding_holds cpus held touched j line mode h clear against = record {
  alone = λ x y b. holding_case held j line (left_to mode) x b
      (λ v. v ≡ Some Exclusive → y ≢ x → holding held j line (left_to mode) y b ≡ None)
      (λ e f v ne. absurd (not_left mode v))
      (λ ex ne. holding_case held j line (left_to mode) y b (λ v. v ≡ None)
      (λ e f. absurd (none_is_not_against mode (held j line)
      (ap (λ y. held y line) (sym e) ∙ ap (held y) (sym f) ∙ h.alone x y b ex ne) against))
      (h.alone x y b ex ne));
  stored = λ x b is. holding_case held j line (left_to mode) x b (λ v. v ≡ Some Exclusive)
      (λ e f. absurd (clear.not_stored
      (ap (λ y. (touched y).stored line) (sym e) ∙ ap (λ b. (touched x).stored b) (sym f) ∙ is)))
      (h.stored x b is);
  fetched = λ x b is. holding_case held j line (left_to mode) x b (λ v. is_some v ≡ true)
      (λ e f. some_left mode (λ exclusive. clear.not_fetched exclusive
      (ap (λ y. (touched y).fetched line) (sym e) ∙ ap (λ b. (touched x).fetched b) (sym f) ∙ is)))
      (h.fetched x b is);
  known = λ x b far. holding_case held j line (left_to mode) x b (λ v. v ≡ None)
      (λ e f. absurd (none_is_not_against mode (held j line)
      (ap (λ y. held y line) (sym e) ∙ h.known x line far) against))
      (h.known x b far);
}

-- ---- what attempts have touched changes

-- one CPU's attempt has touched nothing, or only what it holds
pub touching_holds : (cpus : ℕ) (held : Holders) (touched after : ℕ → Sets) (i : ℕ) → Holds cpus held touched
    → ((x : ℕ) → x ≢ i → after x ≡ touched x)
    → ((line : ℕ) → (after i).stored line ≡ true → held i line ≡ Some Exclusive)
    → ((line : ℕ) → (after i).fetched line ≡ true → is_some (held i line) ≡ true)
    → Holds cpus held after
touching_holds cpus held touched after i h same stored fetched = record {
  alone = h.alone;
  stored = λ x b is. by_way (cases_eq x i)
      (λ e. ap (λ y. held y b) e ∙ stored b (ap (λ y. (after y).stored b) (sym e) ∙ is))
      (λ ne. h.stored x b (ap (λ (s : Sets). s.stored b) (sym (same x ne)) ∙ is));
  fetched = λ x b is. by_way (cases_eq x i)
      (λ e. ap (λ y. is_some (held y b)) e ∙ fetched b (ap (λ y. (after y).fetched b) (sym e) ∙ is))
      (λ ne. h.fetched x b (ap (λ (s : Sets). s.fetched b) (sym (same x ne)) ∙ is));
  known = h.known;
}

-- ---- room is made

lowest_passes : (test : ℕ → Bool) (xs : List ℕ) (line : ℕ) → lowest (filter test xs) ≡ Some line
    → test line ≡ true
lowest_passes test [] line h = absurd (let n : None ≡ Some line = h in cc)
lowest_passes test (x ∷ xs) line h =
    by_way (cases_Bool (test x))
    (λ yes. let e : Some x ≡ Some line =
    sym (ap lowest (cond-true (test x) (x ∷ filter test xs) (filter test xs) yes)) ∙ h in
    let same : x ≡ line = cc in ap test (sym same) ∙ yes)
    (λ no. lowest_passes test xs line
    (sym (ap lowest (cond-false (test x) (x ∷ filter test xs) (filter test xs) no)) ∙ h))

-- a line that the attempt has not touched, and that is none of those that are needed
pub record IsSpare (sets : Sets) (needs : List Need) (line : ℕ) : Type 0 where
  pub not_fetched : sets.fetched line ≡ false
  pub not_stored : sets.stored line ≡ false
  pub not_needed : is_needed needs line ≡ false

spare_parts : (held : Holders) (i : ℕ) (sets : Sets) (needs : List Need) (line : ℕ)
    → is_spare held i sets needs line ≡ true → IsSpare sets needs line
spare_parts held i sets needs line h =
    let both = and_parts (is_some (held i line))
    (not ((sets.fetched line || sets.stored line) || is_needed needs line)) h in
    let off = or_parts (sets.fetched line || sets.stored line) (is_needed needs line)
    (not-true ((sets.fetched line || sets.stored line) || is_needed needs line) both.1) in
    let two = or_parts (sets.fetched line) (sets.stored line) off.0 in
    record { not_fetched = two.0; not_stored = two.1; not_needed = off.1 }

-- what making room leaves: of other CPUs, and of all lines that are needed, everything
pub record MakesRoom (held : Holders) (i : ℕ) (sets : Sets) (needs : List Need)
    (after : Holders) : Type 0 where
  pub others : (x line : ℕ) → x ≢ i → after x line ≡ held x line
  pub less : (line : ℕ) → (after i line ≡ held i line) ⊎ (after i line ≡ None)
  pub needed : (line : ℕ) → is_needed needs line ≡ true → after i line ≡ held i line
  pub fetched : (line : ℕ) → sets.fetched line ≡ true → after i line ≡ held i line
  pub stored : (line : ℕ) → sets.stored line ≡ true → after i line ≡ held i line

same_room : (held : Holders) (i : ℕ) (sets : Sets) (needs : List Need) → MakesRoom held i sets needs held
same_room held i sets needs = record {
  others = λ x line ne. refl;
  less = λ line. inl refl;
  needed = λ line is. refl;
  fetched = λ line is. refl;
  stored = λ line is. refl;
}

gives_up : (held : Holders) (i : ℕ) (sets : Sets) (needs : List Need) (spare : Option ℕ)
    → ((line : ℕ) → spare ≡ Some line → IsSpare sets needs line)
    → MakesRoom held i sets needs (giving_up held i spare)
gives_up held i sets needs None h = same_room held i sets needs
gives_up held i sets needs (Some gone) h =
    let spare = h gone refl in
    let kept : (test : ℕ → Bool) (line : ℕ) → test gone ≡ false → test line ≡ true
    → holding held i gone None i line ≡ held i line =
    λ test line off on. holding_case held i gone None i line (λ v. v ≡ held i line)
    (λ e f. let n : false ≡ true = sym off ∙ ap test (sym f) ∙ on in absurd (cc)) refl in
    record {
      others = λ x line ne. holding_case held i gone None x line (λ v. v ≡ held x line)
          (λ e f. absurd (ne e)) refl;
      less = λ line. holding_case held i gone None i line (λ v. (v ≡ held i line) ⊎ (v ≡ None))
          (λ e f. inr refl) (inl refl);
      needed = λ line is. kept (is_needed needs) line spare.not_needed is;
      fetched = λ line is. kept sets.fetched line spare.not_fetched is;
      stored = λ line is. kept sets.stored line spare.not_stored is;
    }

pub makes_room : (b : Bool) (held : Holders) (i : ℕ) (sets : Sets) (needs : List Need)
    → MakesRoom held i sets needs (with_room b held i sets needs)
makes_room true held i sets needs = same_room held i sets needs
makes_room false held i sets needs =
    gives_up held i sets needs (spare_line held i sets needs)
    (λ line e. spare_parts held i sets needs line
    (lowest_passes (is_spare held i sets needs) (range_with_len 0 storage_lines) line e))

-- ---- a line is granted

not_standing : (h : Option Mode) → is_against Exclusive h ≡ false → h ≡ None
not_standing None e = refl
not_standing (Some Shared) e = let n : true ≡ false = e in cc
not_standing (Some Exclusive) e = let n : true ≡ false = e in cc

exclusive_stands : (mode : Mode) (h : Option Mode) → h ≡ Some Exclusive → is_against mode h ≡ false → ⊥
exclusive_stands mode h e s = let n : true ≡ false = ap (is_against mode) (sym e) ∙ s in cc

alone_by : (mode : Mode) (h : Option Mode) → Some mode ≡ Some Exclusive → is_against mode h ≡ false → h ≡ None
alone_by Exclusive h e s = not_standing h s
alone_by Shared h e s = absurd (cc)

there_exclusively : (mode : Mode) (h : Option Mode) → is_there mode h ≡ false → h ≡ Some Exclusive → ⊥
there_exclusively mode h off e = let n : true ≡ false = ap (is_there mode) (sym e) ∙ off in cc

pub granting_holds : (cpus : ℕ) (held : Holders) (touched : ℕ
    → Sets) (i : ℕ) (needs : List Need) (need : Need)
    → Holds cpus held touched → i < cpus → is_there need.mode (held i need.line) ≡ false
    → ((x : ℕ) → x ≢ i → is_against need.mode (held x need.line) ≡ false)
    → Holds cpus (granting i (touched i) needs need held) touched
unfolding granting
granting_holds cpus held touched i needs need h within off none =
    let line = need.line in
    let up = Some need.mode in
    let made = with_room (has_room held i line) held i (touched i) needs in
    let room = makes_room (has_room held i line) held i (touched i) needs in
    let exclusive : (x b : ℕ) → made x b ≡ Some Exclusive → held x b ≡ Some Exclusive =
    λ x b e. by_way (cases_eq x i)
    (λ own. by_way (room.less b)
    (λ same. ap (λ y. held y b) own ∙ sym same ∙ ap (λ y. made y b) (sym own) ∙ e)
    (λ gone. let n : None ≡ Some Exclusive = sym gone ∙ ap (λ y. made y b) (sym own) ∙ e in absurd (cc)))
    (λ ne. sym (room.others x b ne) ∙ e) in
    let none_left : (y b : ℕ) → held y b ≡ None → made y b ≡ None =
    λ y b e. by_way (cases_eq y i)
    (λ own. by_way (room.less b)
    (λ same. ap (λ y. made y b) own ∙ same ∙ ap (λ y. held y b) (sym own) ∙ e)
    (λ gone. ap (λ y. made y b) own ∙ gone))
    (λ ne. room.others y b ne ∙ e) in
    record {
      alone = λ x y b. holding_case made i line up x b
          (λ v. v ≡ Some Exclusive → y ≢ x → holding made i line up y b ≡ None)
          (λ e f v ne. holding_case made i line up y b (λ v. v ≡ None)
          (λ own g. absurd (ne (own ∙ sym e)))
          (let apart : y ≢ i = λ own. ne (own ∙ sym e) in
          none_left y b (ap (held y) f ∙ alone_by need.mode (held y line) v (none y apart))))
          (λ ex ne. holding_case made i line up y b (λ v. v ≡ None)
          (λ own g. let apart : x ≢ i = λ q. ne (own ∙ sym q) in
          absurd (exclusive_stands need.mode (held x line) (ap (held x) (sym g) ∙ exclusive x b ex)
          (none x apart)))
          (none_left y b (h.alone x y b (exclusive x b ex) ne)));
      stored = λ x b is. holding_case made i line up x b (λ v. v ≡ Some Exclusive)
          (λ e f. absurd (there_exclusively need.mode (held i line) off
          (ap (λ y. held y line) (sym e) ∙ ap (held x) (sym f) ∙ h.stored x b is)))
          (by_way (cases_eq x i)
          (λ own. ap (λ y. made y b) own
          ∙ room.stored b (ap (λ y. (touched y).stored b) (sym own) ∙ is)
          ∙ ap (λ y. held y b) (sym own) ∙ h.stored x b is)
          (λ ne. room.others x b ne ∙ h.stored x b is));
      fetched = λ x b is. holding_case made i line up x b (λ v. is_some v ≡ true)
          (λ e f. refl)
          (by_way (cases_eq x i)
          (λ own. ap is_some (ap (λ y. made y b) own
          ∙ room.fetched b (ap (λ y. (touched y).fetched b) (sym own) ∙ is)
          ∙ ap (λ y. held y b) (sym own)) ∙ h.fetched x b is)
          (λ ne. ap is_some (room.others x b ne) ∙ h.fetched x b is));
      known = λ x b far. holding_case made i line up x b (λ v. v ≡ None)
          (λ e f. absurd (omega arith))
          (none_left x b (h.known x b far));
    }

-- ---- what else a grant leaves

pub needs_it : (mode : Mode) (h : Option Mode) → is_there mode h ≡ true → is_some h ≡ true
needs_it mode None h = let n : false ≡ true = h in cc
needs_it mode (Some other) h = refl

pub there_now : (mode : Mode) → is_there mode (Some mode) ≡ true
there_now Shared = refl
there_now Exclusive = refl

pub record Granted (held : Holders) (i : ℕ) (needs : List Need) (need : Need) (after : Holders) : Type 0 where
  pub others : (x line : ℕ) → x ≢ i → after x line ≡ held x line
  pub here : after i need.line ≡ Some need.mode
  pub needed : (line : ℕ) → line ≢ need.line → is_needed needs line ≡ true → after i line ≡ held i line

pub is_granted : (held : Holders) (i : ℕ) (sets : Sets) (needs : List Need) (need : Need)
    → Granted held i needs need (granting i sets needs need held)
unfolding granting
is_granted held i sets needs need =
    let made = with_room (has_room held i need.line) held i sets needs in
    let room = makes_room (has_room held i need.line) held i sets needs in
    record {
      others = λ x line ne. holding_case made i need.line (Some need.mode) x line (λ v. v ≡ held x line)
          (λ e f. absurd (ne e)) (room.others x line ne);
      here = holding_here made i need.line (Some need.mode);
      needed = λ line ne is. holding_case made i need.line (Some need.mode) i line (λ v. v ≡ held i line)
          (λ e f. absurd (ne f)) (room.needed line is);
    }
