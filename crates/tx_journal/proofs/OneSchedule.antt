-- No two schedules have one text.
use Rattle.std.proofs.Common.{◌≡◌, ◌≢◌, ℕ, ◌+◌, ◌*◌, ◌/◌, ◌<◌, ◌≤◌, ◌^◌, zero, suc, List, [], ◌∷◌, ◌++◌}
use Rattle.std.proofs.Common.{length, take, drop, codes, append_assoc, arith, sym, ap, ap₂, ◌∙◌, refl, subst}
use Rattle.std.specs.Fmt.{decimal}
use Rattle.std.specs.List.{All}
use Rattle.std.proofs.lemmas.Fmt.{decimal_injective, decimal_nonempty}
use Rattle.std.proofs.lemmas.List.{append-nil, append_cancel_right, take-append-drop, length-drop}
use Rattle.std.proofs.lemmas.List.{length-append, drop-drop}
use Rattle.std.proofs.lemmas.List.Elements.{All-take, All-drop, All-head, All-tail}
use Rattle.tx_journal.specs.declared.events.Event.{Event}
use Rattle.tx_journal.specs.declared.events.Event.TheVariants.{Turn, External}
use Rattle.tx_journal.specs.Numbers.{Lacks}
use Rattle.tx_journal.specs.Schedule.{event_text, further_text, events_text, row_text, rows_text}
use Rattle.tx_journal.specs.Schedule.{schedule_text, IsNumbered}
use Rattle.tx_journal.proofs.Decimals.{lacks_number, above_digits, lacks_not_there, lacks_rest, same_cut}

pub lacks_front : (c d : ℕ) (xs : List ℕ) → d ≢ c → Lacks c xs → Lacks c (d ∷ xs)
lacks_front c d xs other lacks zero below = other
lacks_front c d xs other lacks (suc i) below = lacks i (omega arith)

pub lacks_both : (c : ℕ) (xs ys : List ℕ) → Lacks c xs → Lacks c ys → Lacks c (xs ++ ys)
lacks_both c [] ys lacks also = also
lacks_both c (x ∷ xs) ys lacks also =
    lacks_front c x (xs ++ ys) (lacks 0 (omega arith)) (lacks_both c xs ys (lacks_rest c x xs lacks) also)

lacks_event : (c : ℕ) (e : Event) → IsNumbered e → c < 48 → Lacks c (event_text e)
lacks_event c (Turn cpu) small low = lacks_number c cpu (omega arith) low
lacks_event c (External cpu) small low =
    lacks_front c 88 (decimal cpu) (λ is. omega arith) (lacks_number c cpu (omega arith) low)

some_event : (e : Event) → IsNumbered e → 0 < length (event_text e)
some_event (Turn cpu) small = decimal_nonempty cpu (omega arith)
some_event (External cpu) small = omega arith

first_digit : (n : ℕ) (xs : List ℕ) → n < 2 ^ 64 → decimal n ≢ 88 ∷ xs
first_digit n xs small is = subst (Lacks 88) is (above_digits n small) 0 (omega arith) refl

same_event : (e f : Event) → IsNumbered e → IsNumbered f → event_text e ≡ event_text f → e ≡ f
same_event (Turn m) (Turn n) m_in n_in is = ap Turn (decimal_injective m n (omega arith) (omega arith) is)
same_event (External m) (External n) m_in n_in is =
    ap External (decimal_injective m n (omega arith) (omega arith) (ap (drop 1) is))
same_event (Turn m) (External n) m_in n_in is = absurd (first_digit m (decimal n) (omega arith) is)
same_event (External m) (Turn n) m_in n_in is = absurd (first_digit n (decimal m) (omega arith) (sym is))

joined : Event → List Event → List ℕ
joined e es = event_text e ++ further_text es

-- where a byte that a text lacks is said to stand in it
no_mark : (c : ℕ) (text xs ys : List ℕ) → Lacks c text → text ≢ xs ++ c ∷ ys
no_mark c text xs ys lacks is = lacks_not_there c xs ys (subst (Lacks c) is lacks)

same_joined : (e f : Event) (es fs : List Event) → IsNumbered e → IsNumbered f → All IsNumbered es
    → All IsNumbered fs → joined e es ≡ joined f fs → e ∷ es ≡ f ∷ fs
unfolding joined
same_joined e f [] [] e_in f_in es_in fs_in is =
    ap (λ (x : Event). x ∷ [])
    (same_event e f e_in f_in (append_cancel_right (event_text e) (event_text f) [] is))
same_joined e f [] (g ∷ gs) e_in f_in es_in fs_in is =
    absurd (no_mark 44 (event_text e) (event_text f) (joined g gs) (lacks_event 44 e e_in (omega arith))
    (sym (append-nil (event_text e)) ∙ is))
same_joined e f (g ∷ gs) [] e_in f_in es_in fs_in is =
    absurd (no_mark 44 (event_text f) (event_text e) (joined g gs) (lacks_event 44 f f_in (omega arith))
    (sym (append-nil (event_text f)) ∙ sym is))
same_joined e f (g ∷ gs) (h ∷ hs) e_in f_in es_in fs_in is =
    let cut =
    same_cut 44 (event_text e) (event_text f) (joined g gs) (joined h hs)
    (lacks_event 44 e e_in (omega arith)) (lacks_event 44 f f_in (omega arith)) is in
    let rest =
    same_joined g h gs hs (All-head IsNumbered g gs es_in) (All-head IsNumbered h hs fs_in)
    (All-tail IsNumbered g gs es_in) (All-tail IsNumbered h hs fs_in) cut.behind in
    ap₂ (λ (x : Event) (xs : List Event). x ∷ xs) (same_event e f e_in f_in cut.front) rest

lacks_further : (es : List Event) → All IsNumbered es → Lacks 10 (further_text es)
lacks_further [] es_in = λ i below. absurd (omega arith)
lacks_further (e ∷ es) es_in =
    lacks_front 10 44 (event_text e ++ further_text es) (λ is. omega arith)
    (lacks_both 10 (event_text e) (further_text es)
    (lacks_event 10 e (All-head IsNumbered e es es_in) (omega arith))
    (lacks_further es (All-tail IsNumbered e es es_in)))

lacks_events : (es : List Event) → All IsNumbered es → Lacks 10 (events_text es)
lacks_events [] es_in = λ i below. absurd (omega arith)
lacks_events (e ∷ es) es_in =
    lacks_both 10 (event_text e) (further_text es)
    (lacks_event 10 e (All-head IsNumbered e es es_in) (omega arith))
    (lacks_further es (All-tail IsNumbered e es es_in))

same_events : (es fs : List Event) → All IsNumbered es → All IsNumbered fs → events_text es ≡ events_text fs
    → es ≡ fs
unfolding joined
same_events [] [] es_in fs_in is = refl
same_events [] (f ∷ fs) es_in fs_in is =
    absurd (omega (
      arith,
      ap length is,
      length-append (event_text f) (further_text fs),
      some_event f
          (All-head IsNumbered f fs fs_in),
    ))
same_events (e ∷ es) [] es_in fs_in is =
    absurd (omega (
      arith,
      ap length is,
      length-append (event_text e) (further_text es),
      some_event e
          (All-head IsNumbered e es es_in),
    ))
same_events (e ∷ es) (f ∷ fs) es_in fs_in is =
    same_joined e f es fs (All-head IsNumbered e es es_in) (All-head IsNumbered f fs fs_in)
    (All-tail IsNumbered e es es_in) (All-tail IsNumbered f fs fs_in) is

-- ---- lines

-- a line with what stands behind it
line_before : List Event → List ℕ → List ℕ
line_before es rest = (codes " SCHED " ++ events_text es) ++ 10 ∷ rest

lacks_word : (es : List Event) → All IsNumbered es → Lacks 10 (codes " SCHED " ++ events_text es)
lacks_word es es_in =
    let text = events_text es in
    let blank = lacks_front 10 32 text (λ is. omega arith) (lacks_events es es_in) in
    let d = lacks_front 10 68 (32 ∷ text) (λ is. omega arith) blank in
    let ed = lacks_front 10 69 (68 ∷ 32 ∷ text) (λ is. omega arith) d in
    let hed = lacks_front 10 72 (69 ∷ 68 ∷ 32 ∷ text) (λ is. omega arith) ed in
    let ched = lacks_front 10 67 (72 ∷ 69 ∷ 68 ∷ 32 ∷ text) (λ is. omega arith) hed in
    let sched = lacks_front 10 83 (67 ∷ 72 ∷ 69 ∷ 68 ∷ 32 ∷ text) (λ is. omega arith) ched in
    lacks_front 10 32 (83 ∷ 67 ∷ 72 ∷ 69 ∷ 68 ∷ 32 ∷ text) (λ is. omega arith) sched

same_front : (es fs : List Event) (xs ys : List ℕ) → All IsNumbered es → All IsNumbered fs
    → line_before es xs ≡ line_before fs ys → (es ≡ fs) × (xs ≡ ys)
unfolding line_before
same_front es fs xs ys es_in fs_in is =
    let cut =
    same_cut 10 (codes " SCHED " ++ events_text es) (codes " SCHED " ++ events_text fs) xs ys
    (lacks_word es es_in) (lacks_word fs fs_in) is in
    (same_events es fs es_in fs_in (ap (drop 7) cut.front), cut.behind)

pub drop_more : (k : ℕ) (es : List Event) → drop (16 * k) (drop 16 es) ≡ drop (16 * suc k) es
drop_more k es = drop-drop (16 * k) 16 es ∙ ap (λ n. drop n es) (omega arith)

-- the first line, and the lines of the events behind it
first_row : (k : ℕ) (es : List Event)
    → rows_text es (suc k) ≡ line_before (take 16 es) (rows_text (drop 16 es) k)
unfolding line_before
first_row zero es = refl
first_row (suc k) es =
    let behind = ap (λ (l : List Event). row_text (take 16 l)) (sym (drop_more k es)) in
    ap₂ (λ (a b : List ℕ). a ++ b) (first_row k es) behind
    ∙ append_assoc (codes " SCHED " ++ events_text (take 16 es)) (10 ∷ rows_text (drop 16 es) k)
    (row_text (take 16 (drop (16 * k) (drop 16 es))))

no_events : (es : List Event) → length es ≤ 0 → es ≡ []
no_events [] none = refl
no_events (e ∷ es) none = absurd (omega arith)

same_rows : (k j : ℕ) (es fs : List Event) → All IsNumbered es → All IsNumbered fs → length es ≤ 16 * k
    → length fs ≤ 16 * j → rows_text es k ≡ rows_text fs j → es ≡ fs
unfolding line_before
same_rows zero zero es fs es_in fs_in es_few fs_few is = no_events es (omega arith)
    ∙ sym (no_events fs (omega arith))
same_rows zero (suc j) es fs es_in fs_in es_few fs_few is =
    absurd (omega (arith, ap length (is ∙ first_row j fs)))
same_rows (suc k) zero es fs es_in fs_in es_few fs_few is =
    absurd (omega (arith, ap length (sym is ∙ first_row k es)))
same_rows (suc k) (suc j) es fs es_in fs_in es_few fs_few is =
    let parts =
    same_front (take 16 es) (take 16 fs) (rows_text (drop 16 es) k) (rows_text (drop 16 fs) j)
    (All-take IsNumbered 16 es es_in) (All-take IsNumbered 16 fs fs_in)
    (sym (first_row k es) ∙ is ∙ first_row j fs) in
    let rest =
    same_rows k j (drop 16 es) (drop 16 fs) (All-drop IsNumbered 16 es es_in)
    (All-drop IsNumbered 16 fs fs_in) (omega (arith, length-drop 16 es))
    (omega (arith, length-drop 16 fs)) parts.1 in
    sym (take-append-drop 16 es) ∙ ap₂ (λ (a b : List Event). a ++ b) parts.0 rest ∙ take-append-drop 16 fs

pub same_schedule : (es fs : List Event) → All IsNumbered es → All IsNumbered fs
    → schedule_text es ≡ schedule_text fs → es ≡ fs
same_schedule es fs es_in fs_in is =
    same_rows ((length es + 15) / 16) ((length fs + 15) / 16) es fs es_in fs_in (omega arith) (omega arith) is
