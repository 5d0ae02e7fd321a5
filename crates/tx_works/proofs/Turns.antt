-- What is kept between events is all that a turn asks of it.
use Rattle.std.proofs.Common.{◌≡◌, ◌≢◌, ℕ, ◌+◌, ◌<◌, true, false, List, [], None, refl, sym, ap}
use Rattle.std.proofs.Common.{◌∙◌, subst, arith}
use Rattle.std.specs.Prelude.{◌⊎◌, ◌≤◌, nat_lt, ◌∷◌, Option, length, map, All}
use Rattle.std.proofs.lemmas.Bool.{cases_Bool}
use borrow.Enum.Arm.{by_way}
use Rattle.z_regs.specs.Prefix.{is_prefix, storage_size}
use Rattle.z_regs.proofs.OneArea.{accessible_within}
use Rattle.z_instr.specs.declared.instr.Instr.{Instr}
use Rattle.z_regs.specs.declared.ranges.Range.{Range}
use Rattle.tx_ladder.specs.Waiting.{waits_in}
use Rattle.tx_journal.specs.declared.events.Event.TheVariants as event
use Rattle.tx_serial.specs.Flat.{Pending, FlatState}
use Rattle.tx_serial.specs.Fate.{Goes}
use Rattle.tx_serial.specs.History.{start_of, replay_from}
use Rattle.tx_progress.specs.Local.{Local}
use Rattle.tx_progress.specs.Trial.{fate_by_progress}
use Rattle.tx_progress.proofs.Facts.{keeps_prefix}
use Rattle.tx_progress.proofs.Parts.{rests}
use Rattle.tx_progress.proofs.Parts.{followed_fate}
use Rattle.tx_progress.proofs.Standing.{tests_find_nothing}
use Rattle.tx_progress.specs.Progress.{Progress}
use Rattle.tx_progress.specs.Reached.{IsFollowed, progress_of}
use Rattle.tx_serial.proofs.Passing.{passes}
use Rattle.tx_serial.proofs.FreeOperands.{inside_operands, not_excepted}
use Rattle.tx_serial.specs.Attempt.{Run}
use Rattle.tx_serial.specs.Fate.{fate}
use Rattle.tx_serial.specs.Run.{run}
use Rattle.tx_serial.specs.Text.{IsPlaced}
use Rattle.z_instr.specs.Operands.{spans}
use Rattle.z_instr.specs.Table.{entry_at}
use Rattle.z_instr.proofs.SmallOperands.{count, sizes}
use Rattle.z_touch.specs.Refusals.{range_of}
use Rattle.tx_serial.proofs.Reached.{accessible_spans}
use Rattle.z_regs.specs.Absolute.{IsAccessible}
use Rattle.std.proofs.Math.ListN.{length-map}
use Rattle.tx_progress.proofs.Lines.{text_there}
use Rattle.tx_lines.proofs.Agreeing.{fate_by_progress-alike}
use Rattle.z_regs.specs.Prefix.{absolute_of}
use Rattle.tx_meaning.specs.Limits.{Setting}
use Rattle.tx_meaning.specs.Meaning.{IsSetting}
use Rattle.tx_meaning.specs.Needs.{interruption_ranges, stored}
use Rattle.tx_meaning.specs.State.{cpus_of, Numbers, is_live, is_first}
use Rattle.tx_meaning.specs.Changes.{counting_turn, with_event}
use Rattle.tx_meaning.proofs.Walk.{at_put_kept}
use Rattle.tx_keeping.specs.Kept.{Kept, text_of, kept_flat, with_state}
use Rattle.tx_keeping.specs.Turn.{k_idle}
use Rattle.tx_keeping.proofs.Truth.{Truth, kept_is, same_text, live_is}
use Rattle.tx_keeping.proofs.Moves.{IsGood}
use Rattle.tx_keeping.proofs.Turning.{waiting_rests, pending_rests}
use Rattle.tx_keeping.proofs.Room.{AllWithin}
use Rattle.tx_keeping.proofs.Few.{resting_room, instruction_room, small_interruption, few_interruption}
use Rattle.tx_bounds.proofs.Stopping.{Counted, turning_begun}
use Rattle.tx_bounds.proofs.Stopped.{Between, may_go_on}
use Rattle.tx_works.specs.Ready.{MayClimb, MayAsk, MayTurn, IsInReach, image_storage}
use Rattle.tx_works.specs.Wanted.{MayWant}
use Rattle.tx_progress.proofs.Quiet.{ends_live, stops_quiet}

-- ---- the ladder and the stop queue

below_stop : (stop : ℕ) (f : ℕ → ℕ) (queue : List ℕ) → Counted stop f queue → (x : ℕ)
    → waits_in queue x ≡ false → f x < stop
below_stop stop f queue c x out =
    let few = c.few x in
    let apart : f x ≢ stop = λ e. let n : true ≡ false = sym (c.at_stop x e) ∙ out in cc in
    omega arith

climbs : (m : Setting) (k : Kept) → Between m k → (x : ℕ) → waits_in k.state.queue x ≡ false → MayClimb k x
climbs m k b x out = record {
  below = λ constrained. subst (λ p. (k.standings x).aborts < p.stop) (sym (b.parms x))
      (below_stop m.image.parms.stop (λ x. (k.standings x).aborts) k.state.queue b.is.counted x out);
  out = λ constrained. out;
}

may_ask : (m : Setting) (i : ℕ) (k : Kept) → Between m k
    → (k.state.queue ≡ []) ⊎ (is_first i k.state.queue ≡ true) → MayAsk (cpus_of m) i k
may_ask m i k b may =
    let t = turning_begun m.image.parms.stop (λ x. (k.standings x).aborts) k.state.queue (is_live k.state) b.is i
    may in
    record {
      others = λ j lt ne live.
          climbs m k b j (by_way (cases_Bool (waits_in k.state.queue j))
          (λ in_it. absurd (ne (t.others j in_it live))) (λ out. out));
      own = λ off.
          climbs m k b i (by_way (cases_Bool (waits_in k.state.queue i))
          (λ in_it. absurd (let n : true ≡ false = sym (t.own in_it) ∙ off in cc)) (λ out. out));
    }

-- ---- operands

in_reach_of : (text : List ℕ) (p : Run) (instr : Instr) (ranges : List Range)
    → fate text p ≡ Goes instr ranges → IsInReach p.cpu.prefix ranges
in_reach_of text p instr ranges goes =
    let pass = passes text p instr ranges goes in
    let nothing = tests_find_nothing text p instr pass.passed in
    let c = p.cpu in
    let ss = spans instr c.general c.condition in
    let operands = (entry_at instr.op.number).operands in
    let fields = count operands instr c.general c.condition in
    let few : length (map range_of ss) ≤ 2 = omega (arith, length-map ss range_of, fields) in
    let inside = inside_operands text instr c (length p.nest) (not_excepted instr _ nothing.accessible) in
    record {
      few = subst (λ rs. length rs ≤ 2) (sym pass.touches) few;
      accessible = subst (All (IsAccessible c.prefix)) (sym pass.touches)
          (accessible_spans c.prefix ss (sizes operands instr c.general c.condition) inside);
    }

in_reach : (f : FlatState) (i : ℕ) (local : Local) (instr : Instr) (ranges : List Range) → IsFollowed f i local
    → fate_by_progress f.text f.storage local.attempt ≡ Goes instr ranges
    → IsInReach local.attempt.cpu.prefix ranges
unfolding progress_of
in_reach f i local instr ranges h goes =
    subst (λ (q : Progress). IsInReach q.cpu.prefix ranges) h.attempt
    (in_reach_of f.text (run f i local.attempt.count) instr ranges (followed_fate f i local h ∙ goes))

-- ---- a block that is pending

block_inside : (prefix : Option ℕ) (text : List ℕ) (b : Pending) → IsPlaced prefix text b
    → b.address + 256 ≤ storage_size
block_inside prefix text b placed =
    let last = accessible_within prefix (b.address + 255) (placed.free 255 (omega arith)).accessible in
    omega (arith, last)

-- ---- the turn

module _ (m : Setting) (s : IsSetting m) where
  -- the next instruction is read from the image's storage
  image_text : (i : ℕ) (k : Kept) → Truth m k
      → fate_by_progress (text_of m) (image_storage m) (k.locals i).attempt
      ≡ fate_by_progress (text_of m) k.storage (k.locals i).attempt
  unfolding replay_from
  image_text i k t =
      let l = k.locals i in
      let prefix : is_prefix l.attempt.cpu.prefix ≡ true =
      ap is_prefix (keeps_prefix (kept_flat m k) i l (t.each i).followed) ∙ (kept_is m s k t).prefixes i in
      fate_by_progress-alike (text_of m) k.storage (image_storage m) l.attempt
      (λ a h. sym (same_text m s (start_of m.image) (kept_flat m k) [] k.state.history refl t.replayed
      (absolute_of l.attempt.cpu.prefix a) (text_there l.attempt.cpu.prefix (text_of m) a prefix h)))

  -- what the next turn asks for
  pub may_want : (i : ℕ) (k : Kept) → Truth m k → MayWant m k.storage (k.locals i)
  may_want i k t = record {
    inside = λ block is.
        let kept = kept_is m s k t in
        block_inside (k.locals i).cpu.prefix (text_of m) block (kept.blocks i block is);
    reach = λ instr ranges is. in_reach (kept_flat m k) i (k.locals i) instr ranges (t.each i).followed is;
    text = image_text i k t;
  }

  pub may_turn : (i : ℕ) (k : Kept) → IsGood m k → AllWithin k.state.held → Between m k
      → k_idle m k i ≡ None → MayTurn m i k
  may_turn i k g within b goes_on = record {
    asks = may_ask m i k b (may_go_on m i k goes_on);
    goes = λ instr ranges is. record {
      within = within i;
      few = (instruction_room m k i instr ranges g is).few;
    };
    stores = λ block is. record {
      within = within i;
      few = (resting_room m k i (k.locals i).attempt.cpu.prefix (stored block.address 256 ∷ []) g
          (pending_rests m s i k block g.truth is) (omega arith, tt) (omega arith)).few;
    };
    takes = λ w is. record {
      within = within i;
      few = (resting_room m k i (k.locals i).attempt.cpu.prefix (interruption_ranges w.block) g
          (waiting_rests m s i k w g.truth is) (small_interruption w.block) (few_interruption w.block)).few;
    };
    rests = λ w is. waiting_rests m s i k w g.truth is;
    rested = λ off. rests (kept_flat m k) i (k.locals i) (g.truth.each i).followed
        (sym (live_is m k g.truth i) ∙ off);
    inside = (may_want i k g.truth).inside;
    reach = (may_want i k g.truth).reach;
    ends = λ why is. live_is m k g.truth i
        ∙ ends_live (kept_flat m k) i (k.locals i) why (g.truth.each i).followed is;
    stops = λ e is. live_is m k g.truth i
        ∙ stops_quiet (kept_flat m k) i (k.locals i) e (g.truth.each i).followed is;
    text = (may_want i k g.truth).text;
  }

-- ---- with the turn counted

still_live : (i j : ℕ) (k : Kept) → is_live (counting_turn i k.state) j ≡ is_live k.state j
still_live i j k =
    at_put_kept (λ (n : Numbers). nat_lt 0 n.completed) k.state.numbers i
    (record (k.state.numbers i) { turns = (k.state.numbers i).turns + 1 }) refl j

pub counted_turn_may : (m : Setting) (i : ℕ) (k : Kept) → MayTurn m i k
    → MayTurn m i (with_state (with_event (event.Turn i) (counting_turn i k.state)) k)
counted_turn_may m i k t = record {
  asks = record {
    others = λ j lt ne live.
        let c = t.asks.others j lt ne (sym (still_live i j k) ∙ live) in
        record { below = c.below; out = c.out };
    own = λ off. let c = t.asks.own off in record { below = c.below; out = c.out };
  };
  goes = λ instr ranges is. let h = t.goes instr ranges is in record { within = h.within; few = h.few };
  stores = λ b is. let h = t.stores b is in record { within = h.within; few = h.few };
  takes = λ w is. let h = t.takes w is in record { within = h.within; few = h.few };
  rests = λ w is. still_live i i k ∙ t.rests w is;
  rested = λ off. t.rested (sym (still_live i i k) ∙ off);
  inside = t.inside;
  reach = t.reach;
  ends = λ why is. still_live i i k ∙ t.ends why is;
  stops = λ e is. still_live i i k ∙ t.stops e is;
  text = t.text;
}
