-- The edge of a lens element (request 3). A sag, and an edge, is a number or none: where the conic does not reach so far out, or there is no second surface.
-- Definitions only.
use Rattle.std.specs.Prelude.{ℕ, ◌+◌, cond, ◌||◌, ltb, Float, Option, Some, None}
use Rattle.std.specs.Float.{binary64}
use Rattle.std.specs.Float.Ieee.{add, sub, mul, div, lt, is_nan}
use Rattle.floats.specs.Basic.{min_of}
use Rattle.floats.specs.Constants.{zero64, one64}
use Rattle.floats.specs.Sqrt.{sqrt_of}
use Rattle.optics.specs.Curvature.{curvature}
use Rattle.optics.specs.declared.types.OpticalSurface.{OpticalSurface}

-- "With c, r and k the curvature, that radius and the conic, t = 1 - (1 + k) × (c × c × r × r), multiplied from the left"
abbrev pub under_root : (c r k : Float) → Float
under_root c r k = sub binary64 one64 (mul binary64 (add binary64 one64 k) (mul binary64 (mul binary64 (mul binary64 c c) r) r))

-- "t below 0 or not a number is a failure, else the sag is c × r × r / (1 + sqrt(t))"
unfoldable pub sag_of : (c r k : Float) → Option Float
sag_of c r k =
    let t = under_root c r k in
    cond (lt t zero64 || is_nan t) None (Some (div binary64 (mul binary64 (mul binary64 c r) r) (add binary64 one64 (sqrt_of t))))

-- "The edge is thickness + second sag - first sag"; a failure of either is one
abbrev pub edge_from : (thickness : Float) (first second : Option Float) → Option Float
edge_from thickness (Some z1) (Some z2) = Some (sub binary64 (add binary64 thickness z2) z1)
edge_from thickness (Some z1) None = None
edge_from thickness None second = None

-- "The radius used is the smaller semi-diameter of the surface and its successor."
abbrev pub edge_between : (surface successor : OpticalSurface) → Option Float
edge_between a b =
    let r = min_of a.semi_diameter_mm b.semi_diameter_mm in
    edge_from a.thickness_mm (sag_of (curvature a.radius_mm) r a.conic_constant) (sag_of (curvature b.radius_mm) r b.conic_constant)

-- the edge behind surface i, of count surfaces: the last has no successor
abbrev pub edge_of : (surface : ℕ → OpticalSurface) (count i : ℕ) → Option Float
edge_of surface count i = cond (ltb (i + 1) count) (edge_between (surface i) (surface (i + 1))) None
