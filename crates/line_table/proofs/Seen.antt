-- What a table is seen as, read from its rows of marks, and what a write of one place does to it.
use Rattle.std.proofs.Common.{◌≡◌, ◌≢◌, ℕ, ◌+◌, ◌*◌, ◌%◌, ◌<◌, ◌≤◌, Bool, true, false, cond, eqb, ltb, List}
use Rattle.std.proofs.Common.{length, get_or, set, Option, None, is_some, refl, sym, ap, ◌∙◌, arith}
use Rattle.std.specs.Prelude.{◌&&◌}
use Rattle.std.proofs.lemmas.Bool.{cases_eq, cases_lt, cond-true, cond-false, lt-ltb, le-ltb, eq-eqb, ne_eqb}
use Rattle.std.proofs.lemmas.Bool.{and_left, and_right}
use Rattle.std.proofs.lemmas.List.{get_or-set_same, get_or-set_other, get_or_past}
use Rattle.std.proofs.lemmas.List.FromFn.{length-map-range_with_len, get_or-map-range_with_len}
use borrow.Enum.Arm.{by_way}
use Rattle.line_table.specs.declared.table.Mode.{Mode}
use Rattle.line_table.specs.Sizes.{storage_lines}
use Rattle.line_table.specs.Holders.{Holders, Holdings, holding, mode_in}
use Rattle.line_table.specs.Rows.{mode_from, modes_of}

-- the mode of a line by the marks
abbrev pub marked : List Bool → List Bool → ℕ → ℕ → Option Mode
marked held exclusive cpu line =
    mode_from (get_or held (cpu * storage_lines + line) false) (get_or exclusive line false)

abbrev pub seen : List Bool → List Bool → Holders
seen held exclusive cpu line = cond (ltb line storage_lines) (marked held exclusive cpu line) None

pub seen_within : (held exclusive : List Bool) (cpu line : ℕ) → line < storage_lines
    → seen held exclusive cpu line ≡ marked held exclusive cpu line
seen_within held exclusive cpu line lt =
    cond-true (ltb line storage_lines) (marked held exclusive cpu line) None (lt-ltb line storage_lines lt)

pub seen_past : (held exclusive : List Bool) (cpu line : ℕ) → storage_lines ≤ line
    → seen held exclusive cpu line ≡ None
seen_past held exclusive cpu line le =
    cond-false (ltb line storage_lines) (marked held exclusive cpu line) None (le-ltb line storage_lines le)

abbrev at_index : List Bool → List Bool → ℕ → Option Mode
at_index held exclusive k = mode_from (get_or held k false) (get_or exclusive (k % storage_lines) false)

shown_place : (cpus : ℕ) (held exclusive : List Bool) → length held ≡ cpus * storage_lines → (cpu line : ℕ)
    → line < storage_lines
    → get_or (modes_of cpus held exclusive) (cpu * storage_lines + line) None ≡ marked held exclusive cpu line
unfolding modes_of
shown_place cpus held exclusive size cpu line lt =
    by_way (cases_lt (cpu * storage_lines + line) (cpus * storage_lines))
    (λ low.
    let rest : (cpu * storage_lines + line) % storage_lines ≡ line = omega arith in
    get_or-map-range_with_len (at_index held exclusive) 0 (cpus * storage_lines) (cpu * storage_lines + line)
    (cpu * storage_lines + line) None low (omega arith)
    ∙ ap (λ l. mode_from (get_or held (cpu * storage_lines + line) false) (get_or exclusive l false)) rest)
    (λ high.
    get_or_past (modes_of cpus held exclusive) (cpu * storage_lines + line) None
    (omega (arith, high, length-map-range_with_len (at_index held exclusive) 0 (cpus * storage_lines)))
    ∙ sym (ap (λ h. mode_from h (get_or exclusive line false))
    (get_or_past held (cpu * storage_lines + line) false (omega (arith, high, size)))))

-- the table is seen as its marks say
pub shown : (cpus : ℕ) (held exclusive : List Bool) → length held ≡ cpus * storage_lines
    → mode_in (record { cpus = cpus; modes = modes_of cpus held exclusive }) ≡ seen held exclusive
unfolding mode_in
shown cpus held exclusive size =
    let at : (cpu line : ℕ)
    → mode_in (record { cpus = cpus; modes = modes_of cpus held exclusive }) cpu line ≡ seen held
    exclusive cpu line = λ cpu line.
    by_way (cases_lt line storage_lines)
    (λ lt. cond-true (ltb line storage_lines) _ None (lt-ltb line storage_lines lt)
    ∙ shown_place cpus held exclusive size cpu line lt ∙ sym (seen_within held exclusive cpu line lt))
    (λ le. cond-false (ltb line storage_lines) _ None (le-ltb line storage_lines le)
    ∙ sym (seen_past held exclusive cpu line le)) in
    λ i cpu line. at cpu line i

pub is_some-mode_from : (h x : Bool) → is_some (mode_from h x) ≡ h
is_some-mode_from false x = refl
is_some-mode_from true true = refl
is_some-mode_from true false = refl

pub holding_here : (held : Holders) (cpu line : ℕ) (mode : Option Mode)
    → holding held cpu line mode cpu line ≡ mode
holding_here held cpu line mode =
    cond-true (eqb cpu cpu && eqb line line) mode (held cpu line)
    (ap (λ b. b && eqb line line) (eq-eqb cpu cpu refl) ∙ eq-eqb line line refl)

pub holding_other_cpu : (held : Holders) (cpu line : ℕ) (mode : Option Mode) (c l : ℕ) → c ≢ cpu
    → holding held cpu line mode c l ≡ held c l
holding_other_cpu held cpu line mode c l ne =
    cond-false (eqb c cpu && eqb l line) mode (held c l) (and_left (eqb c cpu) (eqb l line) (ne_eqb c cpu ne))

pub holding_other_line : (held : Holders) (cpu line : ℕ) (mode : Option Mode) (c l : ℕ) → l ≢ line
    → holding held cpu line mode c l ≡ held c l
holding_other_line held cpu line mode c l ne =
    cond-false (eqb c cpu && eqb l line) mode (held c l)
    (and_right (eqb c cpu) (eqb l line) (ne_eqb l line ne))

-- other holders of a line do not see its mark change: it was clear and stays so
abbrev pub OthersShare : List Bool → List Bool → ℕ → ℕ → Bool → Type 0
OthersShare held exclusive cpu line mark = (other : ℕ) → other ≢ cpu
    → get_or held (other * storage_lines + line) false ≡ true → (get_or exclusive line false ≡ false) × (mark ≡ false)

-- one place written: the line of one CPU is held or not, and exclusively or not
pub seen_written : (held exclusive : List Bool) (cpu line : ℕ) (mine mark : Bool)
    → cpu * storage_lines + line < length held → line < length exclusive → line < storage_lines
    → OthersShare held exclusive cpu line mark
    → seen (set held (cpu * storage_lines + line) mine) (set exclusive line mark) ≡ holding (seen held exclusive) cpu
    line (mode_from mine mark)
seen_written held exclusive cpu line mine mark place_in line_in lt share =
    let at : (c l : ℕ)
    → seen (set held (cpu * storage_lines + line) mine) (set exclusive line mark) c l ≡ holding
    (seen held exclusive) cpu line (mode_from mine mark) c l = λ c l.
    by_way (cases_lt l storage_lines)
    (λ low. by_way (cases_eq l line)
    (λ same_line. by_way (cases_eq c cpu) (λ same_cpu. here c l same_cpu same_line)
    (λ other. beside c l other same_line))
    (λ other. elsewhere c l low other))
    (λ high.
    seen_past (set held (cpu * storage_lines + line) mine) (set exclusive line mark) c l high
    ∙ sym (holding_other_line (seen held exclusive) cpu line (mode_from mine mark) c l
    (λ e. omega (arith, e, lt, high)) ∙ seen_past held exclusive c l high)) in
    λ i c l. at c l i
  where
    own : marked (set held (cpu * storage_lines + line) mine) (set exclusive line mark) cpu line ≡ mode_from mine mark
    own =
        ap (λ h. mode_from h (get_or (set exclusive line mark) line false))
        (get_or-set_same held (cpu * storage_lines + line) mine false place_in)
        ∙ ap (mode_from mine) (get_or-set_same exclusive line mark false line_in)

    here : (c l : ℕ) → c ≡ cpu → l ≡ line
        → seen (set held (cpu * storage_lines + line) mine) (set exclusive line mark) c l ≡ holding
        (seen held exclusive) cpu line (mode_from mine mark) c l
    here c l ec el =
        ap (λ x. seen (set held (cpu * storage_lines + line) mine) (set exclusive line mark) x l) ec
        ∙ ap (seen (set held (cpu * storage_lines + line) mine) (set exclusive line mark) cpu) el
        ∙ seen_within (set held (cpu * storage_lines + line) mine) (set exclusive line mark) cpu line lt
        ∙ own
        ∙ sym (ap (λ x. holding (seen held exclusive) cpu line (mode_from mine mark) x l) ec
        ∙ ap (holding (seen held exclusive) cpu line (mode_from mine mark) cpu) el
        ∙ holding_here (seen held exclusive) cpu line (mode_from mine mark))

    shares : (h : Bool) (x : Bool) → (h ≡ true → (x ≡ false) × (mark ≡ false))
        → mode_from h mark ≡ mode_from h x
    shares false x h = refl
    shares true x h = ap (mode_from true) ((h refl).1 ∙ sym (h refl).0)

    beside : (c l : ℕ) → c ≢ cpu → l ≡ line
        → seen (set held (cpu * storage_lines + line) mine) (set exclusive line mark) c l ≡ holding
        (seen held exclusive) cpu line (mode_from mine mark) c l
    beside c l ne el =
        let apart : c * storage_lines + line ≢ cpu * storage_lines + line = λ e. ne (omega (arith, e)) in
        ap (seen (set held (cpu * storage_lines + line) mine) (set exclusive line mark) c) el
        ∙ seen_within (set held (cpu * storage_lines + line) mine) (set exclusive line mark) c line lt
        ∙ ap (λ h. mode_from h (get_or (set exclusive line mark) line false))
        (get_or-set_other held (cpu * storage_lines + line) (c * storage_lines + line) mine false apart)
        ∙ ap (mode_from (get_or held (c * storage_lines + line) false))
        (get_or-set_same exclusive line mark false line_in)
        ∙ shares (get_or held (c * storage_lines + line) false) (get_or exclusive line false) (share c ne)
        ∙ sym (holding_other_cpu (seen held exclusive) cpu line (mode_from mine mark) c l ne
        ∙ ap (seen held exclusive c) el ∙ seen_within held exclusive c line lt)

    elsewhere : (c l : ℕ) → l < storage_lines → l ≢ line
        → seen (set held (cpu * storage_lines + line) mine) (set exclusive line mark) c l ≡ holding
        (seen held exclusive) cpu line (mode_from mine mark) c l
    elsewhere c l low ne =
        let apart : c * storage_lines + l ≢ cpu * storage_lines + line = λ e. ne (omega (arith, e, low, lt)) in
        seen_within (set held (cpu * storage_lines + line) mine) (set exclusive line mark) c l low
        ∙ ap (λ h. mode_from h (get_or (set exclusive line mark) l false))
        (get_or-set_other held (cpu * storage_lines + line) (c * storage_lines + l) mine false apart)
        ∙ ap (mode_from (get_or held (c * storage_lines + l) false)) (get_or-set_other exclusive line l mark false ne)
        ∙ sym (holding_other_line (seen held exclusive) cpu line (mode_from mine mark) c l ne
        ∙ seen_within held exclusive c l low)

-- the same for a value of the type
pub now_seen : (cpus : ℕ) (held exclusive : List Bool) (v : Holdings) → length held ≡ cpus * storage_lines
    → record { cpus = cpus; modes = modes_of cpus held exclusive } ≡ v → mode_in v ≡ seen held exclusive
now_seen cpus held exclusive v size view_is = sym (ap mode_in view_is) ∙ shown cpus held exclusive size
