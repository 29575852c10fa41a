-- When a text is refused, and when it is written.
use mathlib.Core.Path.{◌≡◌, refl, ◌∙◌}
use mathlib.Core.Bool.{Bool, true, false, cond}
use mathlib.Core.List.{List}
use Prim.Native.Nat.{ℕ, ◌*◌, ◌^◌, ◌<◌, ◌≤◌}
use native.Mathlib.Omega.{arith}
use borrow.Author.Tests.{le-leb, lt-leb, leb-true}
use lib.Dec.{leb}
use lib.ListN.{length, take, drop}
use lib.Seq.{take-append_seam, drop-append_seam}
use Rattle.sheet.specs.Record.{label_places}
use Rattle.sheet.specs.Sheet.{Grid, grid}
use Rattle.sheet.proofs.Cells.{cells_most}
use Rattle.sheet.specs.Refusal.{sizes_fit}
use Rattle.sheet.proofs.Within.{both_true, rows_cols_most, cols_some}
use Rattle.listing.specs.Listing.{listing_text, refusal_text}
use Rattle.listing.specs.Writing.{refused, accepted, places_fit, text_into, listing_fault, listing_into}
use Rattle.listing.specs.Writing.{refusal_into}
use Rattle.listing.specs.Steps.{Listable}
use Rattle.listing.proofs.Lengths.{refusal_most}

-- a text that fits is accepted
pub text_into_lem : (text buffer : List ℕ) → length text ≤ length buffer → text_into text buffer ≡ accepted text buffer
unfolding text_into
text_into_lem text buffer room = rw (le-leb (length text) (length buffer) room)

module _ (rows cols : ℕ) (dirs areas labels basins : List ℕ) where
  -- no fault: sizes and slices fit
  pub no_fault : listing_fault (grid rows cols dirs) areas labels basins ≡ 0
      → Listable rows cols dirs areas labels basins
  unfolding listing_fault
  no_fault e = go (sizes_fit rows cols) (places_fit (grid rows cols dirs) areas labels basins) refl refl e
    where
      go : (a b : Bool) → sizes_fit rows cols ≡ a → places_fit (grid rows cols dirs) areas labels basins ≡ b
          → ◌≡◌ {A = ℕ} (cond a (cond b 0 3) 1) 0 → Listable rows cols dirs areas labels basins
      go true true f g e =
          let most = rows_cols_most rows cols f in
          let d = both_true (leb (rows * cols) (length dirs)) _ g in
          let a = both_true (leb (rows * cols) (length areas)) _ d.1 in
          let l = both_true (leb (rows * cols) (label_places (length labels))) _ a.1 in
          record {
            rows_most = most.0;
            cols_most = most.1;
            cols_some = cols_some rows cols f;
            dirs_long = leb-true _ _ d.0;
            areas_long = leb-true _ _ a.0;
            labels_long = leb-true _ _ l.0;
            basins_long = leb-true _ _ l.1;
          }
      go true false f g e = absurd (omega arith)
      go false b f g e = absurd (omega arith)

  -- where they fit, there is none
  pub none_fails : sizes_fit rows cols ≡ true → rows * cols ≤ length dirs → rows * cols ≤ length areas
      → rows * cols ≤ label_places (length labels) → rows * cols ≤ length basins
      → listing_fault (grid rows cols dirs) areas labels basins ≡ 0
  unfolding listing_fault
  none_fails sizes d a l b = rw (sizes, le-leb _ _ d, le-leb _ _ a, le-leb _ _ l, le-leb _ _ b)

module _ (G : Grid) (areas labels basins buffer : List ℕ) where
  -- a fault is refused
  pub refused_fault : (fault : ℕ) → fault ≡ listing_fault G areas labels basins → (fault ≡ 0 → ⊥)
      → refused fault buffer ≡ listing_into G areas labels basins buffer
  unfolding listing_into listing_fault
  refused_fault fault e some = go (sizes_fit G.rows G.cols) (places_fit G areas labels basins) e
    where
      go : (a b : Bool) → fault ≡ cond a (cond b 0 3) 1 → refused fault buffer
          ≡ cond a (cond b (text_into (listing_text G areas labels basins) buffer) (refused 3 buffer)) (refused 1 buffer)
      go true true f = absurd (some f)
      go true false f = rw f refl
      go false b f = rw f refl

  -- with none, only the buffer's length is left to check
  pub no_fault_into : listing_fault G areas labels basins ≡ 0
      → listing_into G areas labels basins buffer ≡ text_into (listing_text G areas labels basins) buffer
  unfolding listing_into listing_fault
  no_fault_into e = go (sizes_fit G.rows G.cols) (places_fit G areas labels basins) e
    where
      go : (a b : Bool) → ◌≡◌ {A = ℕ} (cond a (cond b 0 3) 1) 0
          → cond a (cond b (text_into (listing_text G areas labels basins) buffer) (refused 3 buffer)) (refused 1 buffer)
          ≡ text_into (listing_text G areas labels basins) buffer
      go true true f = refl
      go true false f = absurd (omega arith)
      go false b f = absurd (omega arith)

module _ (rows cols : ℕ) (dirs areas labels basins buffer : List ℕ) where
  pub refused_sizes : sizes_fit rows cols ≡ false
      → refused 1 buffer ≡ listing_into (grid rows cols dirs) areas labels basins buffer
  unfolding listing_into
  refused_sizes e = rw e

  module _ (sizes : sizes_fit rows cols ≡ true) where
    refused_places : places_fit (grid rows cols dirs) areas labels basins ≡ false
        → refused 3 buffer ≡ listing_into (grid rows cols dirs) areas labels basins buffer
    unfolding listing_into
    refused_places e = rw (sizes, e)

    pub refused_dirs : length dirs < rows * cols
        → refused 3 buffer ≡ listing_into (grid rows cols dirs) areas labels basins buffer
    unfolding places_fit
    refused_dirs d = refused_places (rw (lt-leb _ _ d))

    module _ (d : rows * cols ≤ length dirs) where
      pub refused_areas : length areas < rows * cols
          → refused 3 buffer ≡ listing_into (grid rows cols dirs) areas labels basins buffer
      unfolding places_fit
      refused_areas a = refused_places (rw (le-leb _ _ d, lt-leb _ _ a))

      module _ (a : rows * cols ≤ length areas) where
        pub refused_labels : label_places (length labels) < rows * cols
            → refused 3 buffer ≡ listing_into (grid rows cols dirs) areas labels basins buffer
        unfolding places_fit
        refused_labels l = refused_places (rw (le-leb _ _ d, le-leb _ _ a, lt-leb _ _ l))

        module _ (l : rows * cols ≤ label_places (length labels)) where
          pub refused_basins : length basins < rows * cols
              → refused 3 buffer ≡ listing_into (grid rows cols dirs) areas labels basins buffer
          unfolding places_fit
          refused_basins b = refused_places (rw (le-leb _ _ d, le-leb _ _ a, le-leb _ _ l, lt-leb _ _ b))

          module _ (b : rows * cols ≤ length basins) where
            pub listable : Listable rows cols dirs areas labels basins
            listable = let most = rows_cols_most rows cols sizes in record {
              rows_most = most.0;
              cols_most = most.1;
              cols_some = cols_some rows cols sizes;
              dirs_long = d;
              areas_long = a;
              labels_long = l;
              basins_long = b;
            }

            -- all checks but that of the buffer are passed
            pub listing_into_lem : listing_into (grid rows cols dirs) areas labels basins buffer ≡ text_into
                (listing_text (grid rows cols dirs) areas labels basins) buffer
            unfolding listing_into places_fit
            listing_into_lem = rw (sizes, le-leb _ _ d, le-leb _ _ a, le-leb _ _ l, le-leb _ _ b)

            pub listing_accepted : length (listing_text (grid rows cols dirs) areas labels basins) ≤ length buffer
                → listing_into (grid rows cols dirs) areas labels basins buffer ≡ accepted
                (listing_text (grid rows cols dirs) areas labels basins) buffer
            listing_accepted room =
                listing_into_lem ∙ text_into_lem (listing_text (grid rows cols dirs) areas labels basins) buffer room

-- 39 bytes are enough for any refusal
pub refusal_accepted : (number place : ℕ) (buffer : List ℕ) → number < 256 → place < 2 ^ 64 → 39 ≤ length buffer
    → refusal_into number place buffer ≡ accepted (refusal_text number place) buffer
unfolding refusal_into
refusal_accepted number place buffer h g room =
    text_into_lem (refusal_text number place) buffer (omega (arith, refusal_most number place h g))

-- the number of a cell on the sheet is small
pub cell_small : {rows cols : ℕ} {dirs areas labels basins : List ℕ} {cell : ℕ}
    → Listable rows cols dirs areas labels basins → cell < rows * cols → cell < 65536
cell_small s l = omega (arith, cells_most s.rows_most s.cols_most)

-- the text at the start of the buffer, and the bytes after it
pub accepted_text : (text buffer : List ℕ) → take (length text) (accepted text buffer).buffer ≡ text
accepted_text text buffer = take-append_seam text (drop (length text) buffer)

pub accepted_rest : (text buffer : List ℕ)
    → drop (length text) (accepted text buffer).buffer ≡ drop (length text) buffer
accepted_rest text buffer = drop-append_seam text (drop (length text) buffer)
