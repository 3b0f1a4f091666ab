-- Surfaces and indices of a job line. Definitions only.
use Rattle.std.specs.Prelude.{ℕ, ◌+◌, ◌*◌, cond, ◌&&◌, List, ltb, Float, set, replicate, Ok}
use Rattle.std.specs.Float.{nan}
use Rattle.optics.specs.declared.types.OpticalSurface.{OpticalSurface}
use Rattle.text.specs.Fields.{field_of}
use Rattle.text.specs.Reader.{then, float_from}
use Rattle.joblines.specs.Entries.{Form, read_after, put_from, entries_from}

-- a surface: radius conic thickness semi
unfoldable pub surface_from : Form OpticalSurface
surface_from line at =
    then (float_from line at) (λ radius.
    then (float_from line radius.to) (λ conic.
    then (float_from line conic.to) (λ thickness.
    then (float_from line thickness.to) (λ semi.
    Ok (field_of semi.to (record {
      radius_mm = radius.value;
      conic_constant = conic.value;
      thickness_mm = thickness.value;
      semi_diameter_mm = semi.value;
    }))))))

-- where no surface was read: what no call takes
abbrev pub unread_surface : OpticalSurface
unread_surface = record { radius_mm = nan; conic_constant = nan; thickness_mm = nan; semi_diameter_mm = nan }

-- {radius conic thickness semi}, so many, of which there is room for 16
unfoldable pub surfaces_from : (count : ℕ) → Form (List OpticalSurface)
surfaces_from count = entries_from surface_from count (replicate 16 unread_surface)

-- the index x of surface i in slot w, of which there is room for 16 and 4
abbrev pub index_stored : (i w : ℕ) → Float → List Float → List Float
index_stored i w x l = cond (ltb i 16 && ltb w 4) (set l (i * 4 + w) x) l

-- the indices of surface i, one for each slot
unfoldable pub row_from : (slots i : ℕ) → List Float → Form (List Float)
row_from slots i = read_after (λ w. put_from float_from (index_stored i w)) slots 0

-- so many rows
unfoldable pub rows_from : (count slots : ℕ) → List Float → Form (List Float)
rows_from count slots = read_after (row_from slots) count 0

-- {index, surface-major}, of which there is room for 64: where none was read stands what no call takes
unfoldable pub indices_from : (count slots : ℕ) → Form (List Float)
indices_from count slots = rows_from count slots (replicate 64 nan)
