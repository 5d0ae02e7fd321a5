-- An attempt is sound with one instruction more.
use Rattle.std.proofs.Common.{◌≡◌, ◌≢◌, ℕ, zero, suc, ◌+◌, ◌-◌, ◌/◌}
use Rattle.std.proofs.Common.{◌<◌, ◌≤◌, Bool, true, false, List, [], ◌∷◌}
use Rattle.std.proofs.Common.{◌++◌, Option, Some, None, refl, sym, ap, subst, ◌∙◌, arith, length, take}
use Rattle.std.proofs.Common.{replicate, length-append}
use Rattle.std.specs.Prelude.{◌==◌, if◌then◌else◌, slice_get, is_some, All}
use Rattle.std.specs.List.{list_any}
use Rattle.std.proofs.lemmas.Bool.{or_left, or_right, true≢false}
use Rattle.std.proofs.lemmas.List.{length-take-le, length-replicate}
use Rattle.std.proofs.lemmas.List.Elements.{All-head, All-tail}
use Rattle.z_regs.specs.Prefix.{is_prefix, absolute_of, storage_size, area_size}
use Rattle.z_regs.specs.Absolute.{IsAccessible, absolute_ranges}
use Rattle.z_regs.specs.declared.ranges.Range.{Range}
use Rattle.z_regs.proofs.Exchange.{absolute_within}
use Rattle.z_instr.specs.declared.instr.Instr.{Instr}
use Rattle.z_instr.specs.Roles.{begins, is_end}
use Rattle.z_instr.specs.Table.{entry_at}
use Rattle.z_effect.specs.Beginning.{begin_of}
use Rattle.tx_control.specs.declared.begins.Begin.{Begin}
use Rattle.tx_control.specs.Nesting.{outermost_block}
use Rattle.tx_constraint.specs.Kept.{Kept, added}
use Rattle.tx_footprint.specs.Places.{stores_block, has_place}
use Rattle.tx_footprint.specs.Touched.{Touched, Sets, sets_of, touching}
use Rattle.tx_footprint.proofs.Limits.{fits_from}
use Rattle.store_cache.specs.Overlay.{Overlay, Store, has_block, with_one}
use Rattle.store_cache.specs.Stores.{lasting_bytes}
use Rattle.store_cache.specs.Entries.{Entries, stores_of}
use Rattle.store_cache.specs.Sizes.{block_size}
use Rattle.store_cache.proofs.Overlays.{with_one-other}
use Rattle.tx_serial.specs.Flat.{operand_stores, stores_at}
use Rattle.tx_serial.specs.Run.{nest_after, lasting_of}
use Rattle.z_instr.specs.Roles.{stores_lastingly}
use Rattle.tx_serial.proofs.StoredBytes.{stored_size}
use Rattle.tx_serial.proofs.StoredPlaces.{goes_there, AreSmall, operands_there}
use Rattle.tx_progress.specs.Progress.{laying}
use Rattle.tx_attempt.specs.Advancing.{MayAdvance, grown}
use Rattle.tx_attempt.specs.Gathered.{HasRoomFor}
use Rattle.tx_attempt.specs.Performed.{StoresFirst}
use Rattle.tx_attempt.specs.Tracked.{Tracked, IsSound}
use Rattle.tx_attempt.proofs.GatheredBlocks.{one-block}
use Rattle.tx_attempt.proofs.GatheredStores.{stores_by, no-stores, some-stores, first-end}
use Rattle.tx_attempt.proofs.Stored.{first-size, first-small, trimmed-stores}

-- ---- the blocks of the first operand

any-at : (test : ℕ → Bool) (prefix : Option ℕ) (a : ℕ) (xs : List ℕ) (k : ℕ) → k < length xs
    → test (absolute_of prefix (a + k)) ≡ true → list_any (λ s. test s.address) (stores_at prefix a xs) ≡ true
any-at test prefix a [] k lt h = absurd (omega (arith, lt))
any-at test prefix a (x ∷ xs) zero lt h =
    let same : a + 0 ≡ a = omega arith in
    or_left (test (absolute_of prefix a)) (list_any (λ s. test s.address) (stores_at prefix (suc a) xs))
    (ap (λ n. test (absolute_of prefix n)) (sym same) ∙ h)
any-at test prefix a (x ∷ xs) (suc k) lt h =
    let same : suc a + k ≡ a + suc k = omega arith in
    let under : k < length xs = omega (arith, lt) in
    or_right (test (absolute_of prefix a)) (list_any (λ s. test s.address) (stores_at prefix (suc a) xs))
    (any-at test prefix (suc a) xs k under (ap (λ n. test (absolute_of prefix n)) same ∙ h))

all-small : (prefix : Option ℕ) (rs : List Range) → All (IsAccessible prefix) rs → AreSmall rs
all-small prefix [] h = tt
all-small prefix (r ∷ rs) h =
    let most = (All-head (IsAccessible prefix) r rs h).most in
    let small : r.length ≤ area_size = omega (arith, most) in
    (small, all-small prefix rs (All-tail (IsAccessible prefix) r rs h))

pub block-there : (prefix : Option ℕ) (need : List Range) (r : Range) (k : ℕ) → is_prefix prefix ≡ true
    → All (IsAccessible prefix) need → StoresFirst need → slice_get need 0 ≡ Some r → r.store ≡ true
    → k < r.length
    → stores_block (absolute_ranges prefix need) (absolute_of prefix (r.first + k) / block_size) ≡ true
unfolding has_place
block-there prefix need r k ok accessible first get e lt =
    let block = absolute_of prefix (r.first + k) / block_size in
    let test : ℕ → Bool = λ a. a / block_size == block in
    let bytes : List ℕ = replicate 256 0 in
    let size : length bytes ≡ 256 = length-replicate {A = ℕ} 256 0 in
    let few = first-small prefix need accessible in
    let enough : stored_size need ≤ length bytes = omega (arith, first-size need first, few, size) in
    let most = (first-end prefix need r accessible get).most in
    let inside : length (take r.length bytes) ≡ r.length =
    length-take-le r.length bytes (omega (arith, most, size)) in
    let all : operand_stores prefix need bytes ≡ stores_at prefix r.first (take r.length bytes) =
    sym (trimmed-stores prefix need bytes first) ∙ some-stores prefix need r bytes get e first in
    let here : (block == block) ≡ true = grind (arith) in
    sym (operands_there test prefix need ok (all-small prefix need accessible) bytes enough)
    ∙ ap (goes_there test) all
    ∙ any-at test prefix r.first (take r.length bytes) k (omega (arith, lt, inside)) here

-- ---- room

pub room-for : (t : Tracked) (i : Instr) (prefix : Option ℕ) (need : List Range) → is_prefix prefix ≡ true
    → All (IsAccessible prefix) need → StoresFirst need → IsSound t → MayAdvance t i prefix need
    → (r : Range) → slice_get need 0 ≡ Some r → r.store ≡ true
    → HasRoomFor (stores_of t.stores).overlay prefix r.first r.length
room-for t i prefix need ok accessible first sound may r get e = record {
  blocks = (touching (sets_of t.footprint) (absolute_ranges prefix need)).blocks;
  few = (fits_from (touching (sets_of t.footprint) (absolute_ranges prefix need)) may.fits).1;
  covers = λ b h. or_left ((sets_of t.footprint).blocks b) (stores_block (absolute_ranges prefix need) b)
      (sound.blocks b h);
  there = λ k lt. or_right
      ((sets_of t.footprint).blocks (absolute_of prefix (r.first + k) / block_size))
      (stores_block (absolute_ranges prefix need) (absolute_of prefix (r.first + k) / block_size))
      (block-there prefix need r k ok accessible first get e lt);
}

-- ---- where stores go

abbrev AllAt : (ℕ → Type 0) → List Store → Type 0
AllAt P [] = Unit {0}
AllAt P (s ∷ ss) = P s.address × AllAt P ss

at-all : (P : ℕ → Type 0) (prefix : Option ℕ) (a : ℕ) (xs : List ℕ)
    → ((k : ℕ) → k < length xs → P (absolute_of prefix (a + k))) → AllAt P (stores_at prefix a xs)
at-all P prefix a [] h = tt
at-all P prefix a (x ∷ xs) h =
    let same : a + 0 ≡ a = omega arith in
    let some : 0 < suc (length xs) = omega arith in (
      subst (λ n. P (absolute_of prefix n)) same (h 0 some),
      at-all P prefix (suc a) xs (λ k lt.
          let next : a + suc k ≡ suc a + k = omega arith in
          let under : suc k < suc (length xs) = omega (arith, lt) in
          subst (λ n. P (absolute_of prefix n)) next (h (suc k) under)),
    )

operand-all-by : (P : ℕ
    → Type 0) (prefix : Option ℕ) (r : Range) (rs : List Range) (bytes : List ℕ) (b : Bool)
    → r.store ≡ b → StoresFirst (r ∷ rs)
    → (r.store ≡ true → (k : ℕ) → k < r.length → P (absolute_of prefix (r.first + k)))
    → AllAt P (stores_by prefix (r ∷ rs) bytes)
operand-all-by P prefix r rs bytes true e first h =
    subst (AllAt P) (sym (some-stores prefix (r ∷ rs) r bytes refl e first))
    (at-all P prefix r.first (take r.length bytes)
    (λ k lt. h e k (within r.length bytes k lt)))
  where
    within : (n : ℕ) (xs : List ℕ) (k : ℕ) → k < length (take n xs) → k < n
    within zero xs k lt = absurd (omega (arith, lt))
    within (suc n) [] k lt = absurd (omega (arith, lt))
    within (suc n) (x ∷ xs) zero lt = omega arith
    within (suc n) (x ∷ xs) (suc k) lt =
        let less : k < n = within n xs k (omega (arith, lt)) in omega (arith, less)
operand-all-by P prefix r rs bytes false e first h =
    subst (AllAt P) (sym (no-stores prefix (r ∷ rs) r bytes refl e first)) tt

operand-all : (P : ℕ → Type 0) (prefix : Option ℕ) (need : List Range) (bytes : List ℕ) → StoresFirst need
    → ((r : Range) → slice_get need 0 ≡ Some r → r.store ≡ true → (k : ℕ) → k < r.length
    → P (absolute_of prefix (r.first + k))) → AllAt P (stores_by prefix need bytes)
operand-all P prefix [] bytes first h = tt
operand-all P prefix (r ∷ rs) bytes first h =
    operand-all-by P prefix r rs bytes r.store refl first (λ e k lt. h r refl e k lt)

laid-none : (end : ℕ) (ss : List Store) (o : Overlay) → AllAt (λ a. a < end) ss
    → ((a : ℕ) → end ≤ a → o a ≡ None) → (a : ℕ) → end ≤ a → laying o ss a ≡ None
laid-none end [] o all none = none
laid-none end (s ∷ ss) o all none = laid-none end ss (with_one o s.address s.byte) all.1 (λ a past.
    let other : a ≢ s.address = λ e. absurd (omega (arith, e, past, all.0)) in
    with_one-other o s.address s.byte a other ∙ none a past)

laid-covered : (blocks : ℕ → Bool) (ss : List Store) (o : Overlay)
    → AllAt (λ a. blocks (a / block_size) ≡ true) ss → ((b : ℕ) → has_block o b ≡ true → blocks b ≡ true)
    → (b : ℕ) → has_block (laying o ss) b ≡ true → blocks b ≡ true
laid-covered blocks [] o all covers = covers
laid-covered blocks (s ∷ ss) o all covers =
    laid-covered blocks ss (with_one o s.address s.byte) all.1
    (one-block o s.address s.byte blocks covers all.0)

all-lasting : (P : ℕ → Type 0) (b : Bool) (ss : List Store) → AllAt P ss → AllAt P (if b then ss else [])
all-lasting P true ss h = h
all-lasting P false ss h = tt

-- ---- the begins

abbrev nest_by : Bool → Bool → Begin → List Begin → List Begin
nest_by b e level nest =
    if b then nest ++ level ∷ [] else if e then take (length nest - 1) nest else nest

nest-opens : (b e : Bool) (level : Begin) (nest : List Begin) → 0 < length nest
    → (e ≡ true → 1 < length nest) → 0 < length (nest_by b e level nest)
nest-opens true e level nest some more =
    let both = length-append nest (level ∷ []) in omega (arith, both, some)
nest-opens false true level nest some more =
    let two = more refl in
    let size = length-take-le (length nest - 1) nest (omega arith) in
    omega (arith, two, size)
nest-opens false false level nest some more = some

nest-block : (b e : Bool) (level : Begin) (nest : List Begin) → 0 < length nest
    → (e ≡ true → 1 < length nest) → outermost_block (nest_by b e level nest) ≡ outermost_block nest
nest-block b e level [] some more = absurd (omega (arith, some))
nest-block true e level (n ∷ ns) some more = refl
nest-block false true level (n ∷ []) some more =
    let two : 1 < 1 = more refl in absurd (omega (arith, two))
nest-block false true level (n ∷ m ∷ ms) some more =
    let less : suc (suc (length ms)) - 1 ≡ suc (length ms) = omega arith in
    ap (λ k. outermost_block (take k (n ∷ m ∷ ms))) less
nest-block false false level (n ∷ ns) some more = refl

nest-single : (b e : Bool) (level : Begin) (nest : List Begin) → length nest ≡ 1 → b ≡ false
    → (e ≡ true → 1 < length nest) → length (nest_by b e level nest) ≡ 1
nest-single true e level nest one plain more = absurd (true≢false plain)
nest-single false true level nest one plain more =
    let two = more refl in absurd (omega (arith, two, one))
nest-single false false level nest one plain more = one

-- ---- constraints

grown-some : (need : List Range) (k : Option Kept) → is_some (grown need k) ≡ true → is_some k ≡ true
grown-some need None h = h
grown-some need (Some k) h = refl

grown-few : (need : List Range) (o : Option Kept) (k : Kept) → ((j : Kept) → o ≡ Some j → j.count < 32)
    → grown need o ≡ Some k → k.count ≤ 32
grown-few need None k few h = absurd (cc)
grown-few need (Some j) k few h =
    let same : added j need ≡ k = cc in
    let less = few j refl in
    let count : j.count + 1 ≡ k.count = ap (λ (x : Kept). x.count) same in
    omega (arith, less, count)

grown-counted : (need : List Range) (o : Option Kept) (k : Kept) (n : ℕ)
    → ((j : Kept) → o ≡ Some j → j.count + 1 ≡ n) → grown need o ≡ Some k → k.count + 1 ≡ n + 1
grown-counted need None k n counted h = absurd (cc)
grown-counted need (Some j) k n counted h =
    let same : added j need ≡ k = cc in
    let so = counted j refl in
    let count : j.count + 1 ≡ k.count = ap (λ (x : Kept). x.count) same in
    omega (arith, so, count)

-- ---- the attempt

pub advanced-sound : (t : Tracked) (i : Instr) (general : List ℕ) (prefix : Option ℕ) (need : List Range)
    (bytes : List ℕ) (nest : List Begin) (f : Touched) (k : Option Kept) (s : Entries) → IsSound t
    → 0 < t.count → MayAdvance t i prefix need → is_prefix prefix ≡ true → All (IsAccessible prefix) need
    → StoresFirst need → nest ≡ nest_after i general t.nest
    → sets_of f ≡ touching (sets_of t.footprint) (absolute_ranges prefix need) → k ≡ grown need t.constraint
    → (stores_of s).overlay ≡ laying (stores_of t.stores).overlay (stores_by prefix need bytes)
    → lasting_bytes (stores_of s).lasting
    ≡ laying (lasting_bytes (stores_of t.stores).lasting) (lasting_of i (stores_by prefix need bytes))
    → IsSound (record {
      nest = nest;
      footprint = f;
      constraint = k;
      stores = s;
      count = t.count + 1;
      resumes_at = t.resumes_at;
    })
advanced-sound t i general prefix need bytes nest f k s sound live may ok accessible first en ef ek eo el =
    let b = begins (entry_at i.op.number) in
    let e = is_end (entry_at i.op.number) in
    let level = begin_of i general in
    let some = sound.opens live in
    let sets : Sets = touching (sets_of t.footprint) (absolute_ranges prefix need) in
    let ends : (r : Range) → slice_get need 0 ≡ Some r → r.store ≡ true → (j : ℕ) → j < r.length
    → absolute_of prefix (r.first + j) < storage_size = λ r get store j lt.
    let end = (first-end prefix need r accessible get).end in
    absolute_within prefix (r.first + j) ok (omega (arith, end, lt)) in
    let there = operand-all (λ a. sets.blocks (a / block_size) ≡ true) prefix need bytes first
    (λ r get store j lt. or_right ((sets_of t.footprint).blocks (absolute_of prefix
    (r.first + j) / block_size))
    (stores_block (absolute_ranges prefix need) (absolute_of prefix (r.first + j) / block_size))
    (block-there prefix need r j ok accessible first get store lt)) in
    let within = operand-all (λ a. a < storage_size) prefix need bytes first ends in
    record {
      rests = λ h. absurd (omega (arith, h));
      opens = λ h. subst (λ (n : List Begin). 0 < length n) (sym en)
          (nest-opens b e level t.nest some may.leaves);
      blocks = λ block h. ap (λ (x : Sets). x.blocks block) ef
          ∙ laid-covered sets.blocks (stores_by prefix need bytes) (stores_of t.stores).overlay there
          (λ c g. or_left ((sets_of t.footprint).blocks c) (stores_block (absolute_ranges prefix need) c)
          (sound.blocks c g)) block (sym (ap (λ (o : Overlay). has_block o block) eo) ∙ h);
      inside = λ a h. ap (λ (o : Overlay). o a) eo
          ∙ laid-none storage_size (stores_by prefix need bytes) (stores_of t.stores).overlay within
          sound.inside a h;
      lasts = λ a h. ap (λ (o : Overlay). o a) el
          ∙ laid-none storage_size (lasting_of i (stores_by prefix need bytes))
          (lasting_bytes (stores_of t.stores).lasting)
          (all-lasting (λ x. x < storage_size) (stores_lastingly (entry_at i.op.number))
          (stores_by prefix need bytes) within) sound.lasts a h;
      single = λ h.
          let old : is_some t.constraint ≡ true =
          grown-some need t.constraint (sym (ap (λ (x : Option Kept). is_some x) ek) ∙ h) in
          ap (λ (n : List Begin). length n) en
          ∙ nest-single b e level t.nest (sound.single old) (may.plain old) may.leaves;
      few = λ kept h. grown-few need t.constraint kept may.few (sym ek ∙ h);
      counted = λ kept h. grown-counted need t.constraint kept t.count sound.counted (sym ek ∙ h);
      block = λ a h. sound.block a (sym (ap outermost_block en
          ∙ nest-block b e level t.nest some may.leaves) ∙ h);
    }
