-- So many turns that are made away, on two storages in which their CPU sees the same where they look.
use Rattle.std.proofs.Common.{◌≡◌, ℕ, zero, suc, ◌<◌, Bool, true, false, List, Option}
use Rattle.std.proofs.Common.{refl, sym, ap, subst, ◌∙◌, arith}
use Rattle.std.specs.Prelude.{◌||◌, ◌==◌, not, if◌then◌else◌}
use Rattle.std.proofs.lemmas.Bool.{or_left, or_right, true≢false, not-true}
use Rattle.z_regs.specs.declared.ranges.Range.{Range}
use Rattle.z_instr.specs.declared.instr.Instr.{Instr}
use Rattle.z_instr.specs.Roles.{begins}
use Rattle.z_instr.specs.Table.{entry_at}
use Rattle.line_table.specs.declared.table.Mode.{Mode}
use Rattle.store_cache.specs.Overlay.{Overlay}
use Rattle.tx_serial.specs.Fate.{Goes}
use Rattle.tx_serial.specs.Flat.{Storage}
use Rattle.tx_serial.proofs.Frame.{in_first, in_second}
use Rattle.tx_progress.specs.Doing.{executed}
use Rattle.tx_progress.specs.Local.{Local, Beside}
use Rattle.tx_progress.specs.Progress.{Progress, seen_through, is_live}
use Rattle.tx_progress.specs.Trial.{fate_by_progress}
use Rattle.tx_lending.specs.Away.{is_plain, lent_by, lent_turn, ran, GoesAway, GoAway, fate_places, turn_places}
use Rattle.tx_lending.specs.Away.{touched, fate_stores, turn_stores, stored, IsClear}
use Rattle.tx_lending.specs.Places.{text_places, operand_places, is_among, LookAlike, over}
use Rattle.tx_lending.proofs.Stores.{stored_among}
use Rattle.tx_lending.proofs.Touching.{on, fate_alike, done_alike}
use Rattle.tx_lending.proofs.OneMore.{OneMore, stores_in, one_more}
use Rattle.tx_serial.proofs.TextStays.{or_first}

-- What turns have made of two storages: the same CPU; what was seen alike is seen alike; and one storage is the
-- other's marked bytes, laid over what it was.
pub record Along (overlay : Overlay) (marks : ℕ → Bool) (s t : Storage) (b c : Beside) : Type 0 where
  pub local : c.local ≡ b.local
  pub seen : (a : ℕ) → seen_through overlay t a ≡ seen_through overlay s a
      → seen_through b.local.attempt.overlay c.storage a ≡ seen_through b.local.attempt.overlay b.storage a
  pub laid : (a : ℕ) → c.storage a ≡ over marks b.storage t a
  pub clear : IsClear b.local.attempt

-- a plain instruction is no begin
pub no_begin : (i : Instr) → is_plain i ≡ true → begins (entry_at i.op.number) ≡ false
no_begin i h = or_first (begins (entry_at i.op.number)) _ (not-true _ h)

stores_among : (live : Bool) (ranges : List Range) (q : Progress) (a : ℕ)
    → is_among (stores_in live ranges q) a ≡ true → is_among (operand_places ranges q) a ≡ true
stores_among true ranges q a m = absurd (true≢false (sym m))
stores_among false ranges q a m = stored_among ranges q a m

-- ---- one turn more

module _ (text : List ℕ) (held : ℕ → Option Mode) (b : Beside) (other : Storage)
    (looks : LookAlike (is_among (turn_places text b)) b.local.attempt.overlay b.storage other)
    (away : GoesAway text held b)
  where
    abbrev q : Progress
    q = b.local.attempt

    -- it looks at its operands
    pub at_operands : (a : ℕ) → is_among (operand_places away.ranges q) a ≡ true
        → is_among (turn_places text b) a ≡ true
    at_operands a m =
        in_second a (text_places b.storage q) (fate_places (fate_by_progress text b.storage q) q)
        (ap (λ f. is_among (fate_places f q) a) away.goes ∙ m)

    pub same_fate : fate_by_progress text other q ≡ Goes away.instr away.ranges
    same_fate =
        fate_alike text b.storage other q
        (λ a m. looks a
        (in_first a (text_places b.storage q) (fate_places (fate_by_progress text b.storage q) q) m))
        ∙ away.goes

    pub operands_look : LookAlike (is_among (operand_places away.ranges q)) q.overlay b.storage other
    operands_look a m = looks a (at_operands a m)

    -- it goes away from the other storage too
    pub goes_too : GoesAway text held (on b.local other)
    goes_too = record {
      instr = away.instr;
      ranges = away.ranges;
      goes = same_fate;
      plain = away.plain;
      told = (done_alike away.instr away.ranges b.local b.storage other operands_look).told ∙ away.told;
      lines = away.lines;
    }

    pub turn_is : lent_turn text b ≡ (executed away.instr away.ranges b).after
    turn_is = ap (λ f. lent_by f b) away.goes

    pub other_turn_is : lent_turn text (on b.local other)
        ≡ (executed away.instr away.ranges (on b.local other)).after
    other_turn_is = ap (λ f. lent_by f (on b.local other)) same_fate

    pub stores_are : stores_in (is_live q) away.ranges q ≡ turn_stores text b
    stores_are = sym (ap (λ f. fate_stores f q) away.goes)

-- the marks with those of one instruction more
abbrev and_marks : (ℕ → Bool) → List ℕ → ℕ → Bool
and_marks marks places a = marks a || is_among places a

laid_by : (marked new : Bool) (x t y b c : ℕ) → (new ≡ true → y ≡ x) → (new ≡ false → y ≡ c)
    → c ≡ (if marked then b else t) → (c ≡ b → y ≡ x)
    → y ≡ (if marked || new then x else t)
laid_by true true x t y b c put kept was same = put refl
laid_by false true x t y b c put kept was same = put refl
laid_by true false x t y b c put kept was same = same was
laid_by false false x t y b c put kept was same = kept refl ∙ was

further_by : (overlay : Overlay) (marks : ℕ → Bool) (s t : Storage) (b : Beside) (other : Storage) (live : Bool)
    (ranges : List Range) (x y : Beside) → Along overlay marks s t b (on b.local other)
    → ((a : ℕ) → is_among (operand_places ranges b.local.attempt) a ≡ true
    → seen_through b.local.attempt.overlay other a ≡ seen_through b.local.attempt.overlay b.storage a)
    → OneMore live b.local.attempt ranges b.storage other x y
    → Along overlay (and_marks marks (stores_in live ranges b.local.attempt)) s t x y
further_by overlay marks s t b other live ranges x y along looks one =
    let q = b.local.attempt in
    record {
      local = one.local;
      seen = λ a h. one.seen a (along.seen a h);
      laid = λ a. laid_by (marks a) (is_among (stores_in live ranges q) a) (x.storage a) (t a) (y.storage a)
          (b.storage a) (other a) (λ m. one.put a m (looks a (stores_among live ranges q a m)))
          (λ m. one.kept a m) (along.laid a) (λ e. one.same a e);
      clear = one.clear;
    }

further_on : (text : List ℕ) (held : ℕ → Option Mode) (overlay : Overlay) (marks : ℕ → Bool) (s t : Storage)
    (b : Beside) (other : Storage) → Along overlay marks s t b (on b.local other) → GoesAway text held b
    → LookAlike (is_among (turn_places text b)) b.local.attempt.overlay b.storage other
    → Along overlay (and_marks marks (turn_stores text b)) s t (lent_turn text b)
    (lent_turn text (on b.local other))
further_on text held overlay marks s t b other along away looks =
    let q = b.local.attempt in
    let operands = operands_look text held b other looks away in
    let one = one_more away.instr away.ranges b.local b.storage other along.clear
    (no_begin away.instr away.plain) operands away.told in
    let made = further_by overlay marks s t b other (is_live q) away.ranges
    (executed away.instr away.ranges b).after (executed away.instr away.ranges (on b.local other)).after
    along operands one in
    let first = subst (λ x. Along overlay (and_marks marks (stores_in (is_live q) away.ranges q)) s t x
    (executed away.instr away.ranges (on b.local other)).after)
    (sym (turn_is text held b other looks away)) made in
    let second = subst (λ y. Along overlay (and_marks marks (stores_in (is_live q) away.ranges q)) s t
    (lent_turn text b) y) (sym (other_turn_is text held b other looks away)) first in
    subst (λ places. Along overlay (and_marks marks places) s t (lent_turn text b)
    (lent_turn text (on b.local other))) (stores_are text held b other looks away) second

-- a CPU beside another storage, by what is left of both
its_local : (b c : Beside) → c.local ≡ b.local → on b.local c.storage ≡ c
its_local b c e = sym (λ i. record { local = e i; storage = c.storage })

further : (text : List ℕ) (held : ℕ → Option Mode) (overlay : Overlay) (marks : ℕ → Bool) (s t : Storage)
    (b c : Beside) → Along overlay marks s t b c → GoesAway text held b
    → ((a : ℕ) → is_among (turn_places text b) a ≡ true → seen_through overlay t a ≡ seen_through overlay s a)
    → Along overlay (and_marks marks (turn_stores text b)) s t (lent_turn text b) (lent_turn text c)
further text held overlay marks s t b c along away agree =
    let is = its_local b c along.local in
    subst (λ c. Along overlay (and_marks marks (turn_stores text b)) s t (lent_turn text b) (lent_turn text c)) is
    (further_on text held overlay marks s t b c.storage
    (subst (λ c. Along overlay marks s t b c) (sym is) along) away (λ a m. along.seen a (agree a m)))

-- ---- so many turns

pub fewer : (text : List ℕ) (held : ℕ → Option Mode) (k : ℕ) (b : Beside) → GoAway text held (suc k) b
    → GoAway text held k b
fewer text held k b away j below = away j (omega (arith, below))

pub last_one : (text : List ℕ) (held : ℕ → Option Mode) (k : ℕ) (b : Beside) → GoAway text held (suc k) b
    → GoesAway text held (ran text k b)
last_one text held k b away = away k (omega (arith))

pub along : (text : List ℕ) (held : ℕ → Option Mode) (k : ℕ) (local : Local) (s t : Storage)
    → IsClear local.attempt → GoAway text held k (on local s)
    → LookAlike (touched text k (on local s)) local.attempt.overlay s t
    → Along local.attempt.overlay (stored text k (on local s)) s t (ran text k (on local s))
    (ran text k (on local t))
unfolding ran touched stored
along text held zero local s t clear away h = record {
  local = refl;
  seen = λ a e. e;
  laid = λ a. refl;
  clear = clear;
}
along text held (suc k) local s t clear away h =
    let before = along text held k local s t clear (fewer text held k (on local s) away)
    (λ a m. h a (or_left (touched text k (on local s) a) _ m)) in
    further text held local.attempt.overlay (stored text k (on local s)) s t (ran text k (on local s))
    (ran text k (on local t)) before (last_one text held k (on local s) away)
    (λ a m. h a (or_right (touched text k (on local s) a) _ m))

pub makes : (text : List ℕ) (held : ℕ → Option Mode) (k : ℕ) (local : Local) (s t : Storage)
    → IsClear local.attempt → GoAway text held k (on local s)
    → LookAlike (touched text k (on local s)) local.attempt.overlay s t
    → ran text k (on local t)
    ≡ on (ran text k (on local s)).local (over (stored text k (on local s)) (ran text k (on local s)).storage t)
makes text held k local s t clear away h =
    let made = along text held k local s t clear away h in
    λ i. record { local = made.local i; storage = λ a. made.laid a i }

-- ---- they go away from the other storage too

-- so many turns, and the one behind them
pub go_by : (text : List ℕ) (held : ℕ → Option Mode) (k : ℕ) (c : Beside) → GoAway text held k c
    → GoesAway text held (ran text k c) → GoAway text held (suc k) c
go_by text held k c before last j below = by (j == k) refl
  where
    by : (e : Bool) → (j == k) ≡ e → GoesAway text held (ran text j c)
    by true e = let same : k ≡ j = grind (arith, e) in subst (λ n. GoesAway text held (ran text n c)) same last
    by false e = let less : j < k = grind (arith, e, below) in before j less

pub go_too : (text : List ℕ) (held : ℕ → Option Mode) (k : ℕ) (local : Local) (s t : Storage)
    → IsClear local.attempt → GoAway text held k (on local s)
    → LookAlike (touched text k (on local s)) local.attempt.overlay s t
    → GoAway text held k (on local t)
unfolding touched
go_too text held zero local s t clear away h = λ j below. absurd (omega (arith, below))
go_too text held (suc k) local s t clear away h =
    let b = ran text k (on local s) in
    let c = ran text k (on local t) in
    let first : LookAlike (touched text k (on local s)) local.attempt.overlay s t =
    λ a m. h a (or_left (touched text k (on local s) a) _ m) in
    let fewer_go = fewer text held k (on local s) away in
    let made = along text held k local s t clear fewer_go first in
    let looks : LookAlike (is_among (turn_places text b)) b.local.attempt.overlay b.storage c.storage =
    λ a m. made.seen a (h a (or_right (touched text k (on local s) a) _ m)) in
    go_by text held k (on local t) (go_too text held k local s t clear fewer_go first)
    (subst (GoesAway text held) (its_local b c made.local)
    (goes_too text held b c.storage looks (last_one text held k (on local s) away)))
