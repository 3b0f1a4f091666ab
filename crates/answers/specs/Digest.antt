-- FNV-1a of 64 bits, over surfaces and merits. Definitions only.
use Rattle.std.specs.Prelude.{ℕ, zero, suc, ◌*◌, ◌/◌, ◌%◌, ◌^◌, List, take, bit_xor, Float}
use Rattle.std.specs.List.{fold}
use Rattle.optics.specs.declared.types.OpticalSurface.{OpticalSurface}
use Rattle.text.specs.Numbers.{bits_of}

abbrev pub prime : ℕ
prime = 0x100_0000_01b3

-- a byte is xored in, then the hash is multiplied by the prime
abbrev pub with_byte : ℕ → ℕ → ℕ
with_byte hash byte = bit_xor hash byte * prime % 2 ^ 64

-- n bytes of a number, the lowest first
unfoldable pub with_bytes : ℕ → ℕ → ℕ → ℕ
with_bytes zero hash x = hash
with_bytes (suc n) hash x = with_bytes n (with_byte hash (x % 256)) (x / 256)

-- a float by the eight bytes of its bits
abbrev pub with_float : ℕ → Float → ℕ
with_float hash x = with_bytes 8 hash (bits_of x)

abbrev pub with_surface : ℕ → OpticalSurface → ℕ
with_surface hash s =
    with_float (with_float (with_float (with_float hash s.radius_mm) s.conic_constant) s.thickness_mm)
    s.semi_diameter_mm

-- the first n surfaces
abbrev pub with_surfaces : ℕ → List OpticalSurface → ℕ → ℕ
with_surfaces hash surfaces n = fold with_surface hash (take n surfaces)
