-- Turns by other text pages that are the same where the turns have looked: they are the same turns.
use Rattle.std.proofs.Common.{map, ◌≡◌, ℕ, zero, suc, ◌+◌, ◌*◌, ◌/◌, ◌%◌, ◌<◌, Bool, true, false, List, [], ◌∷◌}
use Rattle.std.proofs.Common.{◌++◌, Option, Some, None, refl, sym, ap, subst, ◌∙◌, arith, length, ltb, lit<}
use Rattle.std.specs.Prelude.{All, cond, nat_eq, not, ◌&&◌, ◌||◌}
use Rattle.std.specs.List.{list_any, list_all, filter}
use Rattle.std.proofs.lemmas.Bool.{true≢false, or_left, or_right}
use Rattle.std.proofs.lemmas.Bool.Decides.{nat_tests}
use Rattle.std.proofs.lemmas.List.Elements.{All-head, All-tail}
use Rattle.z_regs.specs.Cpu.{Cpu}
use Rattle.z_regs.specs.Prefix.{absolute_of, is_prefix}
use Rattle.z_regs.specs.declared.ranges.Range.{Range}
use Rattle.z_regs.proofs.MovedBytes.{same_pages}
use Rattle.z_instr.specs.Access.{accessible_pages, absolute_page, text_pages, lies_in, byte_unfetched, first_some}
use Rattle.z_instr.specs.Access.{unfetched}
use Rattle.z_instr.specs.Facts.{is_begin}
use Rattle.z_instr.specs.Operands.{Span, IsSmall, from_up, pieces, spans, spans_in, tested_spans, is_inside}
use Rattle.z_instr.specs.Operands.{is_stored_into, is_refused_service, inaccessible_in, where_wrong, specification}
use Rattle.z_instr.specs.Operands.{addressing, protection, operation}
use Rattle.z_instr.specs.Roles.{begins}
use Rattle.z_instr.specs.Table.{Entry, entry_at}
use Rattle.z_instr.specs.declared.instr.Instr.{Instr}
use Rattle.z_instr.proofs.Pieces.{holds_byte}
use Rattle.z_instr.proofs.SmallOperands.{sizes}
use Rattle.z_touch.specs.Refusals.{range_of}
use Rattle.z_touch.proofs.SmallRanges.{any-text_pages}
use Rattle.z_effect.proofs.Prefix.{keeps_prefix}
use Rattle.z_effect.specs.After.{cpu_after}
use Rattle.z_effect.specs.Outcome.{Outcome, Did, Divides, Aborts}
use Rattle.z_effect.specs.Outcome as outcome
use Rattle.line_table.specs.declared.table.Mode.{Mode}
use Rattle.tx_control.specs.declared.begins.Begin as opened
use Rattle.tx_serial.specs.Fate.{Fate, Goes, Ends, Stops, Refusal, Excepts, Because, fate_after, first_refusal}
use Rattle.tx_serial.specs.Fate.{operands, fetch_refusal, instruction_at, length_at, excepted, restricted_refusal}
use Rattle.tx_serial.specs.Fate.{specified_refusal, depth_refusal, operand_refusal}
use Rattle.tx_serial.specs.Flat.{Storage, operand_bytes}
use Rattle.tx_serial.proofs.Frame.{in_first, in_second, equals_itself}
use Rattle.tx_progress.specs.Doing.{executed, executed_where, closed_by, stores_of}
use Rattle.tx_progress.specs.Local.{Beside}
use Rattle.tx_progress.specs.Progress.{Progress, seen_through, is_live, advanced}
use Rattle.tx_progress.specs.Trial.{at_hand, fetched, tried, fate_by_progress, outcome_by, text_refusal_by}
use Rattle.tx_progress.specs.Trial.{place_refusal_by, overflow_refusal_by}
use Rattle.tx_progress.specs.declared.done.Done.TheVariants.{Stepped}
use Rattle.tx_cpu.specs.Parts.{local_of}
use Rattle.tx_cpu.proofs.Goes.{read-touches}
use Rattle.tx_marks.specs.Away.{ran, GoAway, GoesAway, touched, lent_turn, lent_by, is_plain, turn_places, fate_places}
use Rattle.tx_marks.specs.Places.{is_among, places_from, text_places, operand_places, stored_places}
use Rattle.tx_marks.proofs.Along.{no_begin, fewer, last_one, go_by}
use Rattle.tx_marks.specs.Marks.{mode_in}
use Rattle.tx_marks.specs.Own.{is_touched}
use Rattle.tx_marks.specs.Traces.{is_stored, is_paged, has_page}
use Rattle.tx_run.specs.Made.{Made, IsMade, AgreeOnPages, from, now, laid, turn_lays, fate_lays, paged, turn_traces}
use Rattle.z_touch.proofs.Reach.{tested_all}

-- ---- text at places

-- each of these places lies in text alike
abbrev AgreeAt : List ℕ → List ℕ → List ℕ → Type 0
AgreeAt places text other = (a : ℕ) → is_among places a ≡ true → lies_in other a ≡ lies_in text a

-- equal places lie in equal pages
same-page : (a b : ℕ) → nat_eq a b ≡ true → nat_eq (a / 4096) (b / 4096) ≡ true
same-page a b e =
    let is : a ≡ b = grind (arith, nat_tests, e) in
    subst (λ x. nat_eq (a / 4096) (x / 4096) ≡ true) is (equals_itself (a / 4096))

-- its page has the first place, or one of the others
page-by : (same : Bool) (a b : ℕ) (others : List ℕ) → nat_eq a b ≡ same → (same || is_among others a) ≡ true
    → (is_among others a ≡ true → has_page others (a / 4096) ≡ true) → has_page (b ∷ others) (a / 4096) ≡ true
page-by true a b others is h more =
    or_left (nat_eq (a / 4096) (b / 4096)) (has_page others (a / 4096)) (same-page a b is)
page-by false a b others is h more =
    or_right (nat_eq (a / 4096) (b / 4096)) (has_page others (a / 4096)) (more h)

-- the page of one of these places has a place of them
page-there : (places : List ℕ) (a : ℕ) → is_among places a ≡ true → has_page places (a / 4096) ≡ true
page-there [] a h = absurd (true≢false (sym h))
page-there (b ∷ others) a h = page-by (nat_eq a b) a b others refl h (page-there others a)

-- where text pages are the same at the pages of places, these lie in text alike
agree-at : (places text other : List ℕ) → AgreeOnPages (has_page places) text other → AgreeAt places text other
agree-at places text other h a m = h (a / 4096) (page-there places a m)

-- ---- text as a CPU sees it

-- a byte lies in text as the CPU sees it exactly where its absolute address lies in text
own-text : (prefix : Option ℕ) (text : List ℕ) (x : ℕ) → is_prefix prefix ≡ true
    → lies_in (text_pages prefix text) x ≡ (ltb (x / 4096) 256 && lies_in text (absolute_of prefix x))
own-text prefix text x ok =
    let same : absolute_page prefix (x / 4096) ≡ absolute_of prefix x / 4096 =
    (same_pages prefix (x / 4096 * 4096) x ok).1 (omega arith) in
    any-text_pages prefix text (x / 4096) ∙ ap (λ p. ltb (x / 4096) 256 && list_any (nat_eq p) text) same

module _ (prefix : Option ℕ) (text other : List ℕ) (ok : is_prefix prefix ≡ true) where
  abbrev its : List ℕ
  its = text_pages prefix text

  abbrev others : List ℕ
  others = text_pages prefix other

  -- a byte lies in text as the CPU sees it alike
  alike-at : (x : ℕ) → lies_in other (absolute_of prefix x) ≡ lies_in text (absolute_of prefix x)
      → lies_in others x ≡ lies_in its x
  alike-at x h =
      own-text prefix other x ok ∙ ap (λ b. ltb (x / 4096) 256 && b) h ∙ sym (own-text prefix text x ok)

  -- ---- the fetch

  -- bytes can be fetched alike
  bytes-alike : (xs : List ℕ) → AgreeAt (map (absolute_of prefix) xs) text other
      → map (byte_unfetched (accessible_pages prefix) others) xs ≡ map (byte_unfetched (accessible_pages prefix) its) xs
  bytes-alike [] h = refl
  bytes-alike (x ∷ xs) h =
      let p = absolute_of prefix x in
      let more = map (absolute_of prefix) xs in
      let first = alike-at x (h p (or_left (nat_eq p p) (is_among more p) (equals_itself p))) in
      let rest = bytes-alike xs (λ a m. h a (or_right (nat_eq a p) (is_among more a) m)) in
      λ z. where_wrong (not (lies_in (accessible_pages prefix) x)) addressing
      (where_wrong (not (first z)) protection None) ∷ rest z

  -- so can an instruction
  unfetched-alike : (a n : ℕ) → AgreeAt (places_from prefix a n) text other
      → unfetched (accessible_pages prefix) others a n ≡ unfetched (accessible_pages prefix) its a n
  unfolding unfetched
  unfetched-alike a n h =
      ap (λ found. where_wrong (nat_eq (a % 2) 1) specification (first_some found)) (bytes-alike (from_up a n) h)

  -- ---- operands that are stored

  -- each byte of a range has its place
  place-there : (first n k : ℕ) → k < n → is_among (places_from prefix first n) (absolute_of prefix (first + k)) ≡ true
  place-there first zero k below = absurd (omega (arith, below))
  place-there first (suc n) zero below =
      let p = absolute_of prefix first in
      let same : first ≡ first + 0 = omega arith in
      subst (λ x. is_among (places_from prefix first (suc n)) (absolute_of prefix x) ≡ true) same
      (or_left (nat_eq p p) (is_among (places_from prefix (suc first) n) p) (equals_itself p))
  place-there first (suc n) (suc k) below =
      let same : suc first + k ≡ first + suc k = omega arith in
      let p = absolute_of prefix (suc first + k) in
      subst (λ x. is_among (places_from prefix first (suc n)) (absolute_of prefix x) ≡ true) same
      (or_right (nat_eq p (absolute_of prefix first)) (is_among (places_from prefix (suc first) n) p)
      (place-there (suc first) n k (omega (arith, below))))

  -- a page that has a byte of a span is a text page alike
  page-alike : (s : Span) (page : ℕ) → IsSmall s → AgreeAt (places_from prefix s.first s.length) text other
      → list_any (nat_eq page) (pieces 4096 s) ≡ true → list_any (nat_eq page) others ≡ list_any (nat_eq page) its
  page-alike s page small h m =
      let held = holds_byte 4096 s page (lit< tt) small.some m in
      let x = s.first + held.0 in
      subst (λ n. list_any (nat_eq n) others ≡ list_any (nat_eq n) its) held.2
      (alike-at x (h (absolute_of prefix x) (place-there s.first s.length held.0 held.1)))

  -- some page of a list is one alike
  pages-alike : (ps : List ℕ)
      → ((p : ℕ) → list_any (nat_eq p) ps ≡ true → list_any (nat_eq p) others ≡ list_any (nat_eq p) its)
      → list_any (λ p. list_any (nat_eq p) others) ps ≡ list_any (λ p. list_any (nat_eq p) its) ps
  pages-alike [] h = refl
  pages-alike (p ∷ ps) h =
      let first = h p (or_left (nat_eq p p) (list_any (nat_eq p) ps) (equals_itself p)) in
      let rest = pages-alike ps (λ x m. h x (or_right (nat_eq x p) (list_any (nat_eq x) ps) m)) in
      λ z. first z || rest z

module _ (text other : List ℕ) (q : Progress) (ok : is_prefix q.cpu.prefix ≡ true) where
  abbrev is_text : Span → Bool
  is_text s = is_stored_into (text_pages q.cpu.prefix text) s

  abbrev is_other : Span → Bool
  is_other s = is_stored_into (text_pages q.cpu.prefix other) s

  -- a span that is stored or not, and all others, reach into text alike
  spans-by : (stored : Bool) (s : Span) (ss : List Span) → IsSmall s
      → AgreeAt (operand_places (cond stored (range_of s ∷ filter (λ (r : Range). r.store) (map range_of ss))
      (filter (λ (r : Range). r.store) (map range_of ss))) q) text other
      → (AgreeAt (stored_places (map range_of ss) q) text other → list_any is_other ss ≡ list_any is_text ss)
      → ((stored && list_any (λ p. list_any (nat_eq p) (text_pages q.cpu.prefix other)) (pieces 4096 s))
      || list_any is_other ss)
      ≡ ((stored && list_any (λ p. list_any (nat_eq p) (text_pages q.cpu.prefix text)) (pieces 4096 s))
      || list_any is_text ss)
  spans-by true s ss small h more =
      let places = places_from q.cpu.prefix s.first s.length in
      let rest = more (λ a m. h a (in_second a places (stored_places (map range_of ss) q) m)) in
      let first = pages-alike q.cpu.prefix text other ok (pieces 4096 s)
      (λ p. page-alike q.cpu.prefix text other ok s p small
      (λ a m. h a (in_first a places (stored_places (map range_of ss) q) m))) in
      λ z. first z || rest z
  spans-by false s ss small h more = more h

  -- what is stored reaches into text alike
  spans-alike : (ss : List Span) → All IsSmall ss → AgreeAt (stored_places (map range_of ss) q) text other
      → list_any is_other ss ≡ list_any is_text ss
  spans-alike [] small h = refl
  spans-alike (s ∷ ss) small h =
      spans-by s.store s ss (All-head IsSmall s ss small) h (spans-alike ss (All-tail IsSmall s ss small))

-- so an instruction that begins no transaction passes the test of its operands alike
inaccessible-alike : (e : Entry) (i : Instr) (general : List ℕ) (code depth : ℕ) (accessible its others : List ℕ)
    → is_begin e.demand ≡ false
    → list_any (is_stored_into others) (spans_in e.operands i general code)
    ≡ list_any (is_stored_into its) (spans_in e.operands i general code)
    → inaccessible_in e i general code depth accessible others ≡ inaccessible_in e i general code depth accessible its
unfolding inaccessible_in
inaccessible-alike e i general code depth accessible its others none h =
    let ss = spans_in e.operands i general code in
    let tested = tested_spans e.demand ss i general depth in
    let same : tested ≡ ss = tested_all e.demand ss i general depth none in
    let alike : list_any (is_stored_into others) tested ≡ list_any (is_stored_into its) tested =
    ap (list_any (is_stored_into others)) same ∙ h ∙ sym (ap (list_any (is_stored_into its)) same) in
    ap (λ b. where_wrong (not (list_all (is_inside accessible) tested)) addressing
    (where_wrong b protection (where_wrong (is_refused_service e.demand i) operation None))) alike

-- ---- the fate

-- the instruction that goes, or else this one
abbrev goes-or : Instr → Fate → Instr
goes-or i (Goes j ranges) = j
goes-or i (Ends why) = i
goes-or i (Stops e) = i

-- nothing goes where a test refuses it
refused-or : (i : Instr) (nest : List opened.Begin) (refusal : Refusal) → goes-or i (fate_after nest refusal) ≡ i
refused-or i [] (Excepts e) = refl
refused-or i (b ∷ bs) (Excepts e) = refl
refused-or i [] (Because why) = refl
refused-or i (b ∷ bs) (Because why) = refl

-- the instruction that is tried is the one that goes
tried-or : (q : Progress) (i : Instr) (o : Option Refusal) → goes-or i (tried q i o) ≡ i
tried-or q i None = refl
tried-or q i (Some refusal) = refused-or i q.nest refusal

module _ (text other : List ℕ) (s : Storage) (q : Progress) (i : Instr) (ranges : List Range)
    (ok : is_prefix q.cpu.prefix ≡ true) (plain : is_plain i ≡ true)
    (goes : fate_by_progress text s q ≡ Goes i ranges)
    (agree : AgreeAt (text_places s q ++ stored_places ranges q) text other)
  where
    -- the fetch finds the same
    fetch-alike : fetch_refusal other (at_hand s q) ≡ fetch_refusal text (at_hand s q)
    fetch-alike =
        unfetched-alike q.cpu.prefix text other ok q.cpu.address (length_at (at_hand s q))
        (λ a m. agree a (in_first a (text_places s q) (stored_places ranges q) m))

    -- so does the test of the operands
    test-alike : (j : Instr) → j ≡ i → ranges ≡ operands j q.cpu
        → operand_refusal other (at_hand s q) j ≡ operand_refusal text (at_hand s q) j
    test-alike j is touches =
        let c = q.cpu in
        let e = entry_at j.op.number in
        let ss = spans j c.general c.condition in
        ap (excepted j)
        (inaccessible-alike e j c.general c.condition (length q.nest) (accessible_pages c.prefix)
        (text_pages c.prefix text) (text_pages c.prefix other)
        (no_begin j (subst (λ k. is_plain k ≡ true) (sym is) plain))
        (spans-alike text other q ok ss (sizes e.operands j c.general c.condition)
        (λ a m. agree a (in_second a (text_places s q) (stored_places ranges q)
        (ap (λ rs. is_among (stored_places rs q) a) touches ∙ m)))))

    -- so what was fetched has the same fate
    fetched-alike : (u : Option ℕ) (o : Option Instr) → instruction_at (at_hand s q) ≡ o
        → fetched text s q u o ≡ Goes i ranges → fetched other s q u o ≡ fetched text s q u o
    fetched-alike (Some code) o reads h = refl
    fetched-alike None None reads h = refl
    fetched-alike None (Some j) reads h =
        let p = at_hand s q in
        let is : j ≡ i = sym (tried-or q j _) ∙ ap (goes-or j) h in
        ap (λ (r : Option Refusal). tried q j (first_refusal (
        text_refusal_by q j ∷ restricted_refusal p j ∷ specified_refusal p j ∷ depth_refusal p j ∷ r
        ∷ place_refusal_by q j ∷ overflow_refusal_by q j ∷ [])))
        (test-alike j is (read-touches text s q j i ranges reads goes))

    -- the instruction goes by the other text pages too
    goes-alike : fate_by_progress other s q ≡ Goes i ranges
    unfolding fate_by_progress
    goes-alike =
        let reads = instruction_at (at_hand s q) in
        ap (λ u. fetched other s q u reads) fetch-alike
        ∙ fetched-alike (fetch_refusal text (at_hand s q)) reads refl goes
        ∙ goes

-- ---- the prefix is never changed

module _ (i : Instr) (ranges : List Range) (b : Beside) where
  abbrev prefix_in : Beside → Option ℕ
  prefix_in x = x.local.attempt.cpu.prefix

  -- where a transaction goes on
  prefix-closed : (c : Cpu) (bytes : List ℕ) (nest : List opened.Begin) → c.prefix ≡ prefix_in b
      → (closed_by (advanced i ranges c (stores_of ranges bytes b.local.attempt) b.local.attempt) nest b).told
      ≡ Stepped
      → prefix_in (closed_by (advanced i ranges c (stores_of ranges bytes b.local.attempt) b.local.attempt) nest
      b).after ≡ prefix_in b
  prefix-closed c bytes [] keeps told = absurd (cc)
  prefix-closed c bytes (outermost ∷ inner) keeps told = keeps

  abbrev Stays : Bool → Bool → Outcome → Type 0
  Stays live begin o =
      (executed_where live begin i ranges b o).told ≡ Stepped
      → prefix_in (executed_where live begin i ranges b o).after ≡ prefix_in b

  -- inside transactions and outside
  prefix-where : (live : Bool) (o : Outcome) → (cpu_after b.local.attempt.cpu o).prefix ≡ prefix_in b
      → Stays live false o
  prefix-where true (Did c bytes) keeps told =
      prefix-closed c bytes (advanced i ranges c (stores_of ranges bytes b.local.attempt) b.local.attempt).nest
      keeps told
  prefix-where true (outcome.Overflowed c bytes) keeps told = absurd (cc)
  prefix-where true Divides keeps told = absurd (cc)
  prefix-where true (Aborts code) keeps told = absurd (cc)
  prefix-where false (Did c bytes) keeps told = keeps
  prefix-where false (outcome.Overflowed c bytes) keeps told = absurd (cc)
  prefix-where false Divides keeps told = absurd (cc)
  prefix-where false (Aborts code) keeps told = refl

  -- an instruction that completes and begins no transaction
  executed-prefix : begins (entry_at i.op.number) ≡ false → (executed i ranges b).told ≡ Stepped
      → prefix_in (executed i ranges b).after ≡ prefix_in b
  unfolding executed
  executed-prefix none =
      let q = b.local.attempt in
      let o = outcome_by b.storage i ranges q in
      let keeps = keeps_prefix i q.cpu (length q.nest)
      (operand_bytes q.cpu.prefix (seen_through q.overlay b.storage) ranges) in
      subst (λ begin. Stays (is_live q) begin o) (sym none) (prefix-where (is_live q) o keeps)

-- ---- a turn

module _ (text other : List ℕ) (held : ℕ → Option Mode) (b : Beside)
    (ok : is_prefix b.local.attempt.cpu.prefix ≡ true) (away : GoesAway text held b)
    (agree : AgreeOnPages (has_page (turn_traces text b)) text other)
  where
    abbrev q : Progress
    q = b.local.attempt

    -- the instruction goes by the other text pages
    other-goes : fate_by_progress other b.storage q ≡ Goes away.instr away.ranges
    other-goes =
        goes-alike text other b.storage q away.instr away.ranges ok away.plain away.goes
        (agree-at (text_places b.storage q ++ stored_places away.ranges q) text other
        (λ page m. agree page
        (ap (λ (f : Fate). has_page (text_places b.storage q ++ fate_lays f q) page) away.goes ∙ m)))

    fate-alike : fate_by_progress other b.storage q ≡ fate_by_progress text b.storage q
    fate-alike = other-goes ∙ sym away.goes

    -- the turn is the same
    turn-alike : lent_turn other b ≡ lent_turn text b
    turn-alike = ap (λ (f : Fate). lent_by f b) fate-alike

    -- it may be made away
    goes-away : GoesAway other held b
    goes-away = record {
      instr = away.instr;
      ranges = away.ranges;
      goes = other-goes;
      plain = away.plain;
      told = away.told;
      lines = away.lines;
    }

    -- the prefix is still one that a CPU may have
    turn-prefix : is_prefix (lent_turn text b).local.attempt.cpu.prefix ≡ true
    turn-prefix =
        ap (λ (f : Fate). is_prefix (lent_by f b).local.attempt.cpu.prefix) away.goes
        ∙ ap is_prefix (executed-prefix away.instr away.ranges b (no_begin away.instr away.plain) away.told) ∙ ok

-- ---- so many turns

-- they make the same, may be made away, and touch and store the same
record AreAlike (text other : List ℕ) (held : ℕ → Option Mode) (k : ℕ) (b : Beside) : Type 0 where
  turns : ran other k b ≡ ran text k b
  away : GoAway other held k b
  looks : (a : ℕ) → touched other k b a ≡ touched text k b a
  lays : (a : ℕ) → laid other k b a ≡ laid text k b a
  area : is_prefix (ran text k b).local.attempt.cpu.prefix ≡ true

-- where the pages of the turns are text pages alike
all-alike : (text other : List ℕ) (held : ℕ → Option Mode) (k : ℕ) (b : Beside)
    → is_prefix b.local.attempt.cpu.prefix ≡ true → GoAway text held k b → AgreeOnPages (paged text k b) text other
    → AreAlike text other held k b
unfolding ran touched laid paged
all-alike text other held zero b ok away agree = record {
  turns = refl;
  away = λ j below. absurd (omega (arith, below));
  looks = λ a. refl;
  lays = λ a. refl;
  area = ok;
}
all-alike text other held (suc k) b ok away agree =
    let before = all-alike text other held k b ok (fewer text held k b away)
    (λ page m. agree page (or_left (paged text k b page) _ m)) in
    let now = ran text k b in
    let last = last_one text held k b away in
    let marks : AgreeOnPages (has_page (turn_traces text now)) text other =
    λ page m. agree page (or_right (paged text k b page) _ m) in
    let fate = fate-alike text other held now before.area last marks in
    record {
      turns = ap (lent_turn other) before.turns ∙ turn-alike text other held now before.area last marks;
      away = go_by other held k b before.away
          (subst (GoesAway other held) (sym before.turns) (goes-away text other held now before.area last marks));
      looks = λ a. (λ z. before.looks a z || is_among (turn_places other (before.turns z)) a)
          ∙ ap (λ (f : Fate). touched text k b a
          || is_among (text_places now.storage now.local.attempt ++ fate_places f now.local.attempt) a) fate;
      lays = λ a. (λ z. before.lays a z || is_among (turn_lays other (before.turns z)) a)
          ∙ ap (λ (f : Fate). laid text k b a || is_among (fate_lays f now.local.attempt) a) fate;
      area = turn-prefix text other held now before.area last marks;
    }

-- ---- the steps of a run

-- what its steps are, by these text pages
pub record AreSteps (text : List ℕ) (m : Made) : Type 0 where
  pub makes : ran text m.steps (from m) ≡ now m
  pub away : GoAway text (mode_in m.needed) m.steps (from m)
  pub marks : (a : ℕ) → is_touched m.own a ≡ touched text m.steps (from m) a
  pub stored : (a : ℕ) → is_stored m.traces a ≡ laid text m.steps (from m) a

-- by the text pages of the image
pub own-steps : (text image : List ℕ) (m : Made) → IsMade text image m → AreSteps text m
own-steps text image m made = record {
  makes = made.makes;
  away = made.away;
  marks = made.marks;
  stored = made.stored;
}

-- and by all that are the same at marked pages
pub steps-by : (text image other : List ℕ) (m : Made) → is_prefix (local_of m.start).attempt.cpu.prefix ≡ true
    → IsMade text image m → AgreeOnPages (is_paged m.traces) text other → AreSteps other m
steps-by text image other m ok made agree =
    let alike = all-alike text other (mode_in m.needed) m.steps (from m) ok made.away
    (λ page h. agree page (made.pages page ∙ h)) in
    record {
      makes = alike.turns ∙ made.makes;
      away = alike.away;
      marks = λ a. made.marks a ∙ sym (alike.looks a);
      stored = λ a. made.stored a ∙ sym (alike.lays a);
    }
