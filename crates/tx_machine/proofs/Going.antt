-- What is kept between events has room for one event more.
use Rattle.std.proofs.Common.{◌≡◌, ℕ, true, false, Option, None, ◌+◌, ◌<◌, ◌≤◌, length, sym, ap, ◌∙◌, subst, arith}
use Rattle.bit_set.specs.Counts.{count_below}
use Rattle.tx_meaning.specs.Limits.{Setting}
use Rattle.tx_meaning.specs.Meaning.{meaning}
use Rattle.tx_meaning.specs.Room.{live_attempts}
use Rattle.tx_meaning.specs.State.{State, is_live, cpus_of}
use Rattle.tx_meaning.proofs.Room.{room}
use Rattle.tx_home.specs.Works.{Works, Seat, kept_by, seats_of, numbers_of}
use Rattle.tx_machine.specs.Machine.{Stands, nobody, most_events}
use Rattle.tx_home.specs.Ready.{owed, MayClimb, MayHold, MayTurn, IsInReach, image_storage}
use Rattle.tx_machine.proofs.Shown.{shown}
use Rattle.tx_home.proofs.Turns.{may_turn, may_want}
use Rattle.tx_home.specs.Wanted.{MayWant}
use Rattle.tx_machine.proofs.Most.{at_most}
use Rattle.z_regs.proofs.Elements.{is_nothing}
use Rattle.tx_machine.proofs.Read.{reads_state, reads_idle}
use Rattle.std.specs.Prelude.{◌||◌, ◌&&◌, nat_lt, is_none}
use Rattle.std.proofs.Common.{List}
use Rattle.std.proofs.lemmas.List.{get_or_default}
use Rattle.std.proofs.lemmas.Nat.{mul-le}
use Rattle.bit_set.proofs.Counts.{count_agree}
use Rattle.line_table.specs.Sizes.{storage_lines, held_limit}
use Rattle.tx_ladder.specs.Waiting.{waits_in}
use Rattle.tx_home.specs.Parts.{local_of}
use Rattle.tx_home.specs.Owned.{storage_in}
use Rattle.tx_home.specs.Progress.{resting}
use Rattle.tx_home.specs.Trial.{fate_by_progress}
use Rattle.tx_meaning.specs.declared.asking.Need.{Need}
use Rattle.tx_meaning.specs.Changes.{is_needed}
use Rattle.tx_meaning.specs.Idle.{idle, idle_by, has_ended, is_ready}
use Rattle.tx_meaning.specs.Needs.{operand_needs, block_needs, interruption_needs}
use Rattle.tx_home.specs.Kept.{text_of}
use Rattle.tx_home.specs.Turn.{k_idle}

module _ (m : Setting) (w : Works) (remaining : ℕ) (s : Stands m w remaining) where
  pub owed_at_most : owed w (kept_by (nobody m) w) ≤ length w.events
  owed_at_most =
      let k = kept_by (nobody m) w in
      let most = room m w.events s.events.known in
      let told : length w.history + count_below (cpus_of m) (is_live k.state) ≤ length w.events =
      subst (λ (t : State). length t.history + live_attempts m t ≤ length t.events)
      (reads_state m w remaining s) most in
      subst (λ n. length w.history + count_below n (is_live k.state) ≤ length w.events) (sym s.cpus) told

  few_events : length w.events ≤ most_events m
  few_events =
      let most = at_most m w.events s.events.known s.events.externals in
      let told : (meaning m w.events).events ≡ w.events = ap (λ (t : State). t.events) (reads_state m w remaining s) in
      omega (arith, most, ap length told)

  pub has_room : owed w (kept_by (nobody m) w) < w.room
  has_room = omega (arith, few_events, owed_at_most, s.room)

  pub has_events_room : length w.events < w.events_room
  has_events_room = omega (arith, few_events, s.events_room)

  -- ---- the history is short

  pub history_is_short : length w.history < 4294967296
  history_is_short =
      let product = mul-le (cpus_of m) m.limits.turns 16 200000 s.setting.image.few_cpus s.setting.limits.few_turns in
      omega (arith, product, s.setting.limits.few_externals, few_events, owed_at_most)

  -- ---- with any seat behind the last CPU

  pub same_seat : (rest : Seat) (j : ℕ) → j < length w.slots
      → seats_of (nobody m) w.slots j ≡ seats_of rest w.slots j
  same_seat rest j lt = get_or_default w.slots j (nobody m) rest lt

  live_alike : (rest : Seat) (j : ℕ) → j < length w.slots
      → is_live (kept_by rest w).state j ≡ is_live (kept_by (nobody m) w).state j
  live_alike rest j lt =
      ap (λ (s : Seat). nat_lt 0 (numbers_of s).completed) (sym (same_seat rest j lt))

  pub has_room_for : (rest : Seat) → owed w (kept_by rest w) < w.room
  has_room_for rest =
      let same = count_agree (length w.slots) (is_live (kept_by rest w).state) (is_live (kept_by (nobody m) w).state)
      (λ j lt. live_alike rest j lt) in
      omega (arith, same, has_room)

  climbs_alike : (rest : Seat) (j : ℕ) → j < length w.slots → MayClimb (kept_by (nobody m) w) j
      → MayClimb (kept_by rest w) j
  climbs_alike rest j lt c = record {
    below = subst (λ (s : Seat). s.ladder.constrained ≡ true → s.ladder.aborts < s.ladder.parms.stop)
        (same_seat rest j lt) c.below;
    out = subst (λ (s : Seat). s.ladder.constrained ≡ true → waits_in w.queue j ≡ false)
        (same_seat rest j lt) c.out;
  }

  -- what the next turn of a CPU asks for
  pub wants : (rest : Seat) (i : ℕ) → i < length w.slots
      → MayWant m (storage_in w.lines) (local_of (seats_of rest w.slots i).cpu)
  wants rest i lt =
      subst (λ (s : Seat). MayWant m (storage_in w.lines) (local_of s.cpu)) (same_seat rest i lt)
      (may_want m s.setting i (kept_by (nobody m) w) (shown m w remaining s).good.truth)

  holds_alike : (rest : Seat) (i : ℕ) (lt : i < length w.slots) (needs : Option ℕ → List Need)
      → MayHold i (needs ((kept_by (nobody m) w).locals i).attempt.cpu.prefix) (kept_by (nobody m) w)
      → MayHold i (needs ((kept_by rest w).locals i).attempt.cpu.prefix) (kept_by rest w)
  holds_alike rest i lt needs h = record {
    within = h.within;
    few = subst (λ (s : Seat). let q = (local_of s.cpu).attempt in count_below storage_lines (λ line.
        (q.footprint.fetched line || q.footprint.stored line) || is_needed (needs q.cpu.prefix) line) ≤ held_limit)
        (same_seat rest i lt) h.few;
  }

  may_alike : (rest : Seat) (i : ℕ) → i < length w.slots → MayTurn m i (kept_by (nobody m) w)
      → MayTurn m i (kept_by rest w)
  may_alike rest i lt t =
      let same = same_seat rest i lt in
      let storage = storage_in w.lines in
      let fate = λ (s : Seat). fate_by_progress (text_of m) storage (local_of s.cpu).attempt in
      record {
        asks = record {
          others = λ j known ne live.
              let there : j < length w.slots = subst (λ n. j < n) (sym s.cpus) known in
              climbs_alike rest j there (t.asks.others j known ne (sym (live_alike rest j there) ∙ live));
          own = λ off. climbs_alike rest i lt (t.asks.own off);
        };
        goes = λ instr ranges is. holds_alike rest i lt (λ p. operand_needs p ranges)
            (t.goes instr ranges (ap fate same ∙ is));
        stores = λ b is. holds_alike rest i lt (λ p. block_needs p b)
            (t.stores b (ap (λ (s : Seat). (local_of s.cpu).pending) same ∙ is));
        takes = λ v is. holds_alike rest i lt (λ p. interruption_needs p v)
            (t.takes v (ap (λ (s : Seat). (local_of s.cpu).waiting) same ∙ is));
        rests = λ v is. live_alike rest i lt ∙ t.rests v (ap (λ (s : Seat). (local_of s.cpu).waiting) same ∙ is);
        rested = λ off. subst (λ (s : Seat). (local_of s.cpu).attempt ≡ resting (local_of s.cpu).cpu) same
            (t.rested (sym (live_alike rest i lt) ∙ off));
        inside = λ b is. t.inside b (ap (λ (s : Seat). (local_of s.cpu).pending) same ∙ is);
        reach = λ instr ranges is.
            subst (λ (s : Seat). IsInReach (local_of s.cpu).attempt.cpu.prefix ranges) same
            (t.reach instr ranges (ap fate same ∙ is));
        ends = λ why is. live_alike rest i lt ∙ t.ends why (ap fate same ∙ is);
        stops = λ e is. live_alike rest i lt ∙ t.stops e (ap fate same ∙ is);
        text = subst (λ (s : Seat). fate_by_progress (text_of m) (image_storage m) (local_of s.cpu).attempt
            ≡ fate_by_progress (text_of m) storage (local_of s.cpu).attempt) same t.text;
      }

  idle_alike : (i : ℕ) → i < cpus_of m → (rest : Seat)
      → k_idle m (kept_by (nobody m) w) i ≡ k_idle m (kept_by rest w) i
  unfolding k_idle
  idle_alike i known rest =
      let lt : i < length w.slots = subst (λ n. i < n) (sym s.cpus) known in
      ap (λ (s : Seat). idle_by m.limits (is_none (local_of s.cpu).pending
      && has_ended (local_of s.cpu).attempt.cpu.state (local_of s.cpu).attempt.cpu.prefix) w.queue (numbers_of s) i)
      (same_seat rest i lt)

  pub turns_may : (i : ℕ) → i < cpus_of m → (rest : Seat) → k_idle m (kept_by rest w) i ≡ None
      → MayTurn m i (kept_by rest w)
  turns_may i known rest none =
      let lt : i < length w.slots = subst (λ n. i < n) (sym s.cpus) known in
      let facts = shown m w remaining s in
      may_alike rest i lt (may_turn m s.setting i (kept_by (nobody m) w) facts.good facts.within facts.between
      (idle_alike i known rest ∙ none))

  pub has_turn : (i : ℕ) → i < cpus_of m → is_ready m (meaning m w.events) i ≡ true → (rest : Seat)
      → k_idle m (kept_by rest w) i ≡ None
  has_turn i known ready rest =
      sym (idle_alike i known rest) ∙ sym (reads_idle m w remaining s i)
      ∙ is_nothing (idle m (meaning m w.events) i) ready
