-- So many turns inside a transaction, for a CPU that goes on as another does.
use Rattle.std.proofs.Common.{◌≡◌, ℕ, zero, suc, Bool, true, false, List, [], ◌∷◌, Option, Some, None}
use Rattle.std.proofs.Common.{refl, sym, ap, subst, ◌∙◌, arith, length}
use Rattle.std.specs.Prelude.{◌==◌, nat_lt, if◌then◌else◌}
use Rattle.std.proofs.lemmas.Bool.{or_left, or_right, true≢false, not-true}
use Rattle.z_regs.specs.Cpu.{Cpu}
use Rattle.z_regs.specs.Prefix.{absolute_of}
use Rattle.z_regs.specs.declared.ranges.Range.{Range}
use Rattle.z_instr.specs.declared.instr.Instr.{Instr}
use Rattle.z_instr.specs.Access.{accessible_pages, text_pages, unfetched}
use Rattle.z_instr.specs.Computing.{reading_of}
use Rattle.z_instr.specs.Layout.{length_by}
use Rattle.z_instr.specs.Operands.{from_up, operation}
use Rattle.z_instr.specs.Roles.{begins, is_end, stores_lastingly}
use Rattle.z_instr.specs.Table.{entry_at}
use Rattle.z_effect.specs.One.{one}
use Rattle.z_effect.specs.Outcome.{Outcome, Did, Divides, Aborts}
use Rattle.z_effect.specs.Outcome as outcome
use Rattle.line_table.specs.declared.table.Mode.{Mode}
use Rattle.tx_control.specs.declared.begins.Begin.{Begin}
use Rattle.store_cache.specs.Overlay.{Overlay, Store, nothing, with_one}
use Rattle.tx_serial.specs.Fate.{Excepts, Goes, fate_after, length_at}
use Rattle.tx_serial.specs.Flat.{Storage, bytes_seen}
use Rattle.tx_serial.proofs.Copies.{laid_alike}
use Rattle.tx_serial.proofs.Frame.{in_first, in_second, length_some}
use Rattle.tx_progress.specs.Doing.{executed, executed_where, closed_by, stores_of}
use Rattle.tx_progress.specs.Local.{Local, Beside}
use Rattle.tx_progress.specs.Progress.{Progress, seen_through, is_live, advanced, laying}
use Rattle.tx_progress.specs.Trial.{at_hand, fetched, fate_by_progress, outcome_by}
use Rattle.tx_progress.specs.declared.done.Done.TheVariants.{Stepped}
use Rattle.tx_progress.proofs.Parts.{resumes_stays}
use Rattle.tx_progress.proofs.SeenStores.{laid_through}
use Rattle.tx_lending.specs.Away.{is_abort, is_plain, lent_by, lent_turn, ran, GoesAway, GoAway, turn_places}
use Rattle.tx_lending.specs.Away.{fate_places, touched}
use Rattle.tx_lending.specs.Places.{text_places, operand_places, is_among}
use Rattle.tx_lending.specs.Stranger.{GoesOnLike, SeeAlike, else_by, upon, made_by, fate_waits, turn_waits, waiting}
use Rattle.tx_lending.specs.Stranger.{gone_on}
use Rattle.tx_lending.proofs.Along.{no_begin, fewer, last_one, go_by}
use Rattle.tx_lending.proofs.Leaving.{left_by, stays_live}
use Rattle.tx_lending.proofs.Touching.{on, seen_alike, operands_alike, first_there}
use Rattle.tx_serial.proofs.TextStays.{or_first, or_second}

-- an attempt with other stores that wait, others that outlive an abort, and another place behind one
abbrev with_other : Progress → Overlay → Overlay → ℕ → Progress
with_other q waits lasting resumes = record q { overlay = waits; lasting = lasting; resumes_at = resumes }

-- ---- its next instruction

module _ (text : List ℕ) (q : Progress) (s t : Storage) (waits lasting : Overlay) (resumes : ℕ) where
  abbrev other : Progress
  other = with_other q waits lasting resumes

  fetched_too : (u : Option ℕ) (i : Option Instr) → length_at (at_hand t other) ≡ length_at (at_hand s q)
      → fetched text t other u i ≡ fetched text s q u i
  fetched_too (Some code) i e = refl
  fetched_too None None e =
      ap (λ n. fate_after q.nest (Excepts record { code = operation; fetch = false; length = n })) e
  fetched_too None (Some i) e = refl

  fate_too : SeeAlike (is_among (text_places s q)) q.overlay s waits t
      → fate_by_progress text t other ≡ fate_by_progress text s q
  unfolding fate_by_progress
  fate_too h =
      let prefix = q.cpu.prefix in
      let a = q.cpu.address in
      let below = seen_through q.overlay s in
      let beside = seen_through waits t in
      let refused = λ (m : ℕ). unfetched (accessible_pages prefix) (text_pages prefix text) a m in
      let n = length_at (at_hand s q) in
      let byte = below (absolute_of prefix a) in
      let some = length_some (nat_lt byte 64) (nat_lt byte 192) in
      let same : length_at (at_hand t other) ≡ n =
      ap length_by (h (absolute_of prefix a) (first_there prefix a n some.0 some.1)) in
      ap (λ m. fetched text t other (refused m) (reading_of (bytes_seen prefix beside a m))) same
      ∙ ap (λ bytes. fetched text t other (refused n) (reading_of bytes))
      (seen_alike prefix below beside (from_up a n) h)
      ∙ fetched_too (refused n) (reading_of (bytes_seen prefix below a n)) same

  outcome_too : (i : Instr) (ranges : List Range)
      → SeeAlike (is_among (operand_places ranges q)) q.overlay s waits t
      → outcome_by t i ranges other ≡ outcome_by s i ranges q
  outcome_too i ranges h =
      ap (one i q.cpu (length q.nest))
      (operands_alike (seen_through q.overlay s) (seen_through waits t) ranges q h)

-- ---- stores

-- stores over later ones over earlier ones
laying_upon : (stores : List Store) (later earlier : Overlay)
    → laying (upon later earlier) stores ≡ upon (laying later stores) earlier
laying_upon [] later earlier = refl
laying_upon (x ∷ rest) later earlier =
    ap (λ o. laying o rest) (one_upon x later earlier) ∙ laying_upon rest (with_one later x.address x.byte) earlier
  where
    one_upon : (x : Store) (later earlier : Overlay) → with_one (upon later earlier) x.address x.byte
        ≡ upon (with_one later x.address x.byte) earlier
    one_upon x later earlier z a = by (a == x.address) z
      where
        by : (b : Bool) → (if b then Some x.byte else else_by (later a) (earlier a))
            ≡ else_by (if b then Some x.byte else later a) (earlier a)
        by true = refl
        by false = refl

see_more : (s t : Storage) (o other : Overlay) (stores : List Store) (a : ℕ)
    → seen_through other t a ≡ seen_through o s a
    → seen_through (laying other stores) t a ≡ seen_through (laying o stores) s a
see_more s t o other stores a h =
    sym (ap (λ f. f a) (laid_through stores other t))
    ∙ laid_alike stores (seen_through o s) (seen_through other t) a h
    ∙ ap (λ f. f a) (laid_through stores o s)

-- a plain instruction's stores do not outlive an abort
no_lasting : (i : Instr) → is_plain i ≡ true → stores_lastingly (entry_at i.op.number) ≡ false
no_lasting i h =
    let e = entry_at i.op.number in
    or_first (stores_lastingly e) _ (or_second (is_abort e.kind) _ (or_second (is_end e) _
    (or_second (begins e) _ (not-true _ h))))

lasts : (b : Bool) (o : Overlay) (stores : List Store) → b ≡ false → laying o (if b then stores else []) ≡ o
lasts true o stores h = absurd (true≢false h)
lasts false o stores h = refl

-- ---- one instruction more

-- The same of the other CPU: it has gone on as the first, with the same stores over its own.
pub record OneInside (l own : Local) (s t : Storage) (waits : Overlay) (stores : List Store) (x y : Beside)
    (Tells : Type 0) : Type 0 where
  pub is : y ≡ on (gone_on x.local (laying waits stores) own) t
  pub overlay : x.local.attempt.overlay ≡ laying l.attempt.overlay stores
  pub storage : x.storage ≡ s
  pub tells : Tells

module _ (i : Instr) (ranges : List Range) (l own : Local) (s t : Storage) (waits : Overlay)
    (plain : is_plain i ≡ true) (live : is_live l.attempt ≡ true)
  where
    abbrev q : Progress
    q = l.attempt

    abbrev there : Local
    there = gone_on l waits own

    inside_closed : (c : Cpu) (bytes : List ℕ) (nest : List Begin)
        → (closed_by (advanced i ranges c (stores_of ranges bytes q) q) nest (on l s)).told ≡ Stepped
        → OneInside l own s t waits (stores_of ranges bytes q)
        (closed_by (advanced i ranges c (stores_of ranges bytes q) q) nest (on l s)).after
        (closed_by (advanced i ranges c (stores_of ranges bytes q) there.attempt) nest (on there t)).after
        ((closed_by (advanced i ranges c (stores_of ranges bytes q) there.attempt) nest (on there t)).told ≡ Stepped)
    inside_closed c bytes [] told = absurd (cc)
    inside_closed c bytes (outermost ∷ inner) told =
        let stores = stores_of ranges bytes q in
        let last = lasts (stores_lastingly (entry_at i.op.number)) own.attempt.lasting stores (no_lasting i plain) in
        let resumed = resumes_stays q.count q.cpu.address own.attempt.resumes_at i live in
        record {
          is = λ z. on (record own {
            attempt = record (advanced i ranges c stores q) {
              overlay = laying waits stores;
              lasting = last z;
              resumes_at = resumed z;
            };
          }) t;
          overlay = refl;
          storage = refl;
          tells = refl;
        }

    inside_where : (o : Outcome) → (executed_where true false i ranges (on l s) o).told ≡ Stepped
        → OneInside l own s t waits (made_by o ranges q) (executed_where true false i ranges (on l s) o).after
        (executed_where true false i ranges (on there t) o).after
        ((executed_where true false i ranges (on there t) o).told ≡ Stepped)
    inside_where (Did c bytes) told =
        inside_closed c bytes (advanced i ranges c (stores_of ranges bytes q) q).nest told
    inside_where (outcome.Overflowed c bytes) told = absurd (cc)
    inside_where Divides told = absurd (cc)
    inside_where (Aborts code) told = absurd (cc)

    begin_none : begins (entry_at i.op.number) ≡ false
    begin_none = no_begin i plain

    -- the first CPU, and the other, by what the instruction is and what comes of it
    abbrev At : Bool → Bool → Outcome → Type 0
    At live begin o =
        (executed_where live begin i ranges (on l s) (outcome_by s i ranges q)).told ≡ Stepped
        → OneInside l own s t waits (made_by (outcome_by s i ranges q) ranges q)
        (executed_where live begin i ranges (on l s) (outcome_by s i ranges q)).after
        (executed_where live begin i ranges (on there t) o).after
        ((executed_where live begin i ranges (on there t) o).told ≡ Stepped)

    pub one_inside : SeeAlike (is_among (operand_places ranges q)) q.overlay s waits t
        → (executed i ranges (on l s)).told ≡ Stepped
        → OneInside l own s t waits (made_by (outcome_by s i ranges q) ranges q) (executed i ranges (on l s)).after
        (executed i ranges (on there t)).after ((executed i ranges (on there t)).told ≡ Stepped)
    unfolding executed
    one_inside h =
        let o = outcome_by s i ranges q in
        let begin = begins (entry_at i.op.number) in
        let lasting = own.attempt.lasting in
        let resumes = own.attempt.resumes_at in
        let same : outcome_by t i ranges there.attempt ≡ o =
        outcome_too [] q s t waits lasting resumes i ranges h in
        let first : At true false o = inside_where o in
        let second : At true begin o = subst (λ b. At true b o) (sym begin_none) first in
        let third : At (is_live q) begin o = subst (λ b. At b begin o) (sym live) second in
        subst (λ p. At (is_live q) begin p) (sym same) third

-- ---- so many

-- what a turn inside a transaction stores waits
pub waits_made : (text : List ℕ) (held : ℕ → Option Mode) (b : Beside) → is_live b.local.attempt ≡ true
    → (away : GoesAway text held b)
    → turn_waits text b
    ≡ made_by (outcome_by b.storage away.instr away.ranges b.local.attempt) away.ranges b.local.attempt
waits_made text held b live away =
    let q = b.local.attempt in
    ap (λ f. fate_waits f b) away.goes
    ∙ ap (λ x. if x then made_by (outcome_by b.storage away.instr away.ranges q) away.ranges q else []) live

-- what turns have made: the other CPU has gone on as the first, with what was stored over its own stores; it sees alike
-- where it saw alike; and the transaction goes on
pub record Beside_it (l own : Local) (s t : Storage) (later : Overlay) (b c : Beside) : Type 0 where
  pub is : c ≡ on (gone_on b.local (upon later own.attempt.overlay) own) t
  pub seen : (a : ℕ) → seen_through own.attempt.overlay t a ≡ seen_through l.attempt.overlay s a
      → seen_through (upon later own.attempt.overlay) t a ≡ seen_through b.local.attempt.overlay b.storage a
  pub live : is_live b.local.attempt ≡ true

module _ (text : List ℕ) (held : ℕ → Option Mode) (l own : Local) (s t : Storage) (later : Overlay) (b c : Beside)
    (before : Beside_it l own s t later b c) (away : GoesAway text held b)
    (agree : (a : ℕ) → is_among (turn_places text b) a ≡ true
    → seen_through own.attempt.overlay t a ≡ seen_through l.attempt.overlay s a)
  where
    abbrev now : Progress
    now = b.local.attempt

    abbrev waits : Overlay
    waits = upon later own.attempt.overlay

    abbrev its : Beside
    its = on (gone_on b.local waits own) t

    abbrev made : List Store
    made = made_by (outcome_by b.storage away.instr away.ranges now) away.ranges now

    abbrev left : Beside
    left = (executed away.instr away.ranges b).after

    looks : SeeAlike (is_among (turn_places text b)) now.overlay b.storage waits t
    looks a m = before.seen a (agree a m)

    its_fate : fate_by_progress text t its.local.attempt ≡ Goes away.instr away.ranges
    its_fate =
        fate_too text now b.storage t waits own.attempt.lasting own.attempt.resumes_at
        (λ a m. looks a
        (in_first a (text_places b.storage now) (fate_places (fate_by_progress text b.storage now) now) m))
        ∙ away.goes

    its_operands : SeeAlike (is_among (operand_places away.ranges now)) now.overlay b.storage waits t
    its_operands a m =
        looks a (in_second a (text_places b.storage now) (fate_places (fate_by_progress text b.storage now) now)
        (ap (λ f. is_among (fate_places f now) a) away.goes ∙ m))

    it_makes : OneInside b.local own b.storage t waits made left (executed away.instr away.ranges its).after
        ((executed away.instr away.ranges its).told ≡ Stepped)
    it_makes =
        one_inside away.instr away.ranges b.local own b.storage t waits away.plain before.live its_operands away.told

    its_away : GoesAway text held its
    its_away = record {
      instr = away.instr;
      ranges = away.ranges;
      goes = its_fate;
      plain = away.plain;
      told = it_makes.tells;
      lines = away.lines;
    }

    pub goes_away_too : GoesAway text held c
    goes_away_too = subst (GoesAway text held) (sym before.is) its_away

    upon_is : laying waits made ≡ upon (laying later (turn_waits text b)) own.attempt.overlay
    upon_is =
        laying_upon made later own.attempt.overlay
        ∙ ap (λ x. upon (laying later x) own.attempt.overlay) (sym (waits_made text held b before.live away))

    turn_left : left ≡ lent_turn text b
    turn_left = sym (ap (λ f. lent_by f b) away.goes)

    its_turn : lent_turn text c ≡ (executed away.instr away.ranges its).after
    its_turn = ap (lent_turn text) before.is ∙ ap (λ f. lent_by f its) its_fate

    by_left : Beside_it l own s t (laying later (turn_waits text b)) left (lent_turn text c)
    by_left = record {
      is = its_turn ∙ it_makes.is ∙ ap (λ o. on (gone_on left.local o own) t) upon_is;
      seen = λ a h.
          sym (ap (λ o. seen_through o t a) upon_is)
          ∙ see_more b.storage t now.overlay waits made a (before.seen a h)
          ∙ sym (ap (λ o. seen_through o b.storage a) it_makes.overlay)
          ∙ sym (ap (λ x. seen_through left.local.attempt.overlay x a) it_makes.storage);
      live = stays_live b.local left.local
          (left_by away.instr away.ranges b.local b.storage away.plain away.told) ∙ before.live;
    }

    pub beside_more : Beside_it l own s t (laying later (turn_waits text b)) (lent_turn text b) (lent_turn text c)
    beside_more =
        subst (λ x. Beside_it l own s t (laying later (turn_waits text b)) x (lent_turn text c)) turn_left by_left

-- a CPU that goes on like another has gone on so from the start
at_start : (l own : Local) (t : Storage) → GoesOnLike l.attempt own.attempt
    → on own t ≡ on (gone_on l (upon nothing own.attempt.overlay) own) t
at_start l own t like = λ z. on (record own {
  attempt = record own.attempt {
    cpu = like.cpu z;
    nest = like.nest z;
    footprint = like.footprint z;
    constraint = like.constraint z;
    count = like.count z;
  };
}) t

module _ (text : List ℕ) (held : ℕ → Option Mode) (l own : Local) (s t : Storage)
    (like : GoesOnLike l.attempt own.attempt) (live : is_live l.attempt ≡ true)
  where
    all_beside : (k : ℕ) → GoAway text held k (on l s)
        → SeeAlike (touched text k (on l s)) l.attempt.overlay s own.attempt.overlay t
        → Beside_it l own s t (waiting text k (on l s)) (ran text k (on l s)) (ran text k (on own t))
    unfolding ran touched waiting
    all_beside zero away h = record { is = at_start l own t like; seen = λ a e. e; live = live }
    all_beside (suc k) away h =
        beside_more text held l own s t (waiting text k (on l s)) (ran text k (on l s)) (ran text k (on own t))
        (all_beside k (fewer text held k (on l s) away) (λ a m. h a (or_left (touched text k (on l s) a) _ m)))
        (last_one text held k (on l s) away) (λ a m. h a (or_right (touched text k (on l s) a) _ m))

    pub stranger_makes : (k : ℕ) → GoAway text held k (on l s)
        → SeeAlike (touched text k (on l s)) l.attempt.overlay s own.attempt.overlay t
        → ran text k (on own t)
        ≡ on (gone_on (ran text k (on l s)).local (upon (waiting text k (on l s)) own.attempt.overlay) own) t
    stranger_makes k away h = (all_beside k away h).is

    pub stranger_goes : (k : ℕ) → GoAway text held k (on l s)
        → SeeAlike (touched text k (on l s)) l.attempt.overlay s own.attempt.overlay t
        → GoAway text held k (on own t)
    unfolding touched
    stranger_goes zero away h = λ j below. absurd (omega (arith, below))
    stranger_goes (suc k) away h =
        let first : SeeAlike (touched text k (on l s)) l.attempt.overlay s own.attempt.overlay t =
        λ a m. h a (or_left (touched text k (on l s) a) _ m) in
        let fewer_go = fewer text held k (on l s) away in
        go_by text held k (on own t) (stranger_goes k fewer_go first)
        (goes_away_too text held l own s t (waiting text k (on l s)) (ran text k (on l s)) (ran text k (on own t))
        (all_beside k fewer_go first) (last_one text held k (on l s) away)
        (λ a m. h a (or_right (touched text k (on l s) a) _ m)))
