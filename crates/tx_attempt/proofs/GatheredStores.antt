-- What an instruction stores in its first operand, as it is gathered.
use Rattle.std.proofs.Common.{◌≡◌, ℕ, ◌%◌, true, false, List, [], ◌∷◌, Option, Some, refl, sym, ap}
use Rattle.std.proofs.Common.{◌∙◌, arith, length, take, subst}
use Rattle.std.specs.Prelude.{slice_get, cond, if◌then◌else◌, All}
use Rattle.std.proofs.lemmas.List.Elements.{All-head}
use Rattle.byteorder.specs.Endian.{big_bytes}
use Rattle.z_regs.specs.Absolute.{IsAccessible}
use Rattle.z_regs.specs.declared.ranges.Range.{Range}
use Rattle.z_instr.specs.declared.instr.Instr.{Instr}
use Rattle.z_instr.specs.Table.{entry_at}
use Rattle.store_cache.specs.Overlay.{Overlay, Store}
use Rattle.tx_serial.specs.Flat.{operand_stores, stores_at}
use Rattle.tx_serial.specs.Run.{lasting_of}
use Rattle.z_instr.specs.Roles.{stores_lastingly}
use Rattle.tx_progress.specs.Progress.{laying}
use Rattle.tx_attempt.specs.Gathered.{IsDoubleword}
use Rattle.tx_attempt.specs.Performed.{StoresFirst, first_size}
use Rattle.tx_attempt.proofs.Stored.{none-stores, first-stores, trimmed-stores}

abbrev pub stores_by : Option ℕ → List Range → List ℕ → List Store
stores_by prefix rs bytes = operand_stores prefix rs (take (first_size rs) bytes)

pub empty-stores : (prefix : Option ℕ) (rs : List Range) (bytes : List ℕ) → length rs ≡ 0
    → stores_by prefix rs bytes ≡ []
empty-stores prefix [] bytes h = refl
empty-stores prefix (r ∷ rs) bytes h = absurd (omega (arith, h))

pub no-stores : (prefix : Option ℕ) (rs : List Range) (r : Range) (bytes : List ℕ) → slice_get rs 0 ≡ Some r
    → r.store ≡ false → StoresFirst rs → stores_by prefix rs bytes ≡ []
no-stores prefix [] r bytes get e first = absurd (cc)
no-stores prefix (q ∷ rs) r bytes get e first =
    let same : q ≡ r = cc in
    let store : q.store ≡ false = ap (λ (x : Range). x.store) same ∙ e in
    none-stores prefix (q ∷ rs) (take (first_size (q ∷ rs)) bytes) (store, first)

pub some-stores : (prefix : Option ℕ) (rs : List Range) (r : Range) (bytes : List ℕ) → slice_get rs 0 ≡ Some r
    → r.store ≡ true → StoresFirst rs
    → stores_by prefix rs bytes ≡ stores_at prefix r.first (take r.length bytes)
some-stores prefix [] r bytes get e first = absurd (cc)
some-stores prefix (q ∷ rs) r bytes get e first =
    let same : r ≡ q = cc in
    let store : q.store ≡ true = sym (ap (λ (x : Range). x.store) same) ∙ e in
    let count : r.length ≡ cond q.store q.length 0 =
    ap (λ (x : Range). x.length) same ∙ ap (λ b. cond b q.length 0) (sym store) in
    trimmed-stores prefix (q ∷ rs) bytes first ∙ first-stores prefix q rs bytes first
    ∙ sym (λ i. stores_at prefix (same i).first (take (count i) bytes))

-- ---- no store

pub overlay-stays : (o : Overlay) (ss : List Store) → ss ≡ [] → o ≡ laying o ss
overlay-stays o ss h = sym (ap (laying o) h)

-- stores of another operation do not last
pub others-last-not : (i : Instr) (o : Overlay) (ss : List Store)
    → stores_lastingly (entry_at i.op.number) ≡ false → o ≡ laying o (lasting_of i ss)
others-last-not i o ss h = sym (ap (λ b. laying o (if b then ss else [])) h)

pub all-last : (i : Instr) (o : Overlay) (ss : List Store)
    → stores_lastingly (entry_at i.op.number) ≡ true → laying o ss ≡ laying o (lasting_of i ss)
all-last i o ss h = sym (ap (λ b. laying o (if b then ss else [])) h)

-- ---- a doubleword

pub record IsThere (r : Range) (bytes : List ℕ) (value : ℕ) : Type 0 where
  pub length : r.length ≡ 8
  pub boundary : r.first % 8 ≡ 0
  pub bytes_are : big_bytes 8 value ≡ take r.length bytes

pub there : (need : List Range) (r : Range) (bytes : List ℕ) (value : ℕ) → IsDoubleword need bytes value
    → slice_get need 0 ≡ Some r → IsThere r bytes value
there need r bytes value d get =
    let same : record { first = d.first; length = 8; store = true } ≡ r =
    one (sym (ap (λ (rs : List Range). slice_get rs 0) d.is) ∙ get) in
    let count : 8 ≡ r.length = ap (λ (x : Range). x.length) same in
    record {
      length = sym count;
      boundary = ap (λ (x : Range). x.first % 8) (sym same) ∙ d.boundary;
      bytes_are = sym d.bytes_are ∙ ap (λ n. take n bytes) count;
    }
  where
    one : {x y : Range} → Some x ≡ Some y → x ≡ y
    one h = cc

-- ---- the first operand is accessible

pub first-end : (prefix : Option ℕ) (rs : List Range) (r : Range) → All (IsAccessible prefix) rs
    → slice_get rs 0 ≡ Some r → IsAccessible prefix r
first-end prefix [] r h get = absurd (cc)
first-end prefix (q ∷ rs) r h get =
    let same : q ≡ r = cc in
    subst (IsAccessible prefix) same (All-head (IsAccessible prefix) q rs h)
