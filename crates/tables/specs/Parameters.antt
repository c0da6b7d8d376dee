-- A/52 7.2.3, Tables 7.6 to 7.11: the parameter of 7.2.2.1 that each code of the track sheet stands for, as the standard prints it.
use Rattle.std.specs.Prelude.{ℕ, cond, List, [], ◌∷◌, ltb, ℤ, pos, ◌-ℤ◌}

-- Table 7.6: sdecay, by sdcycod
unfoldable pub slowdec : List ℕ
slowdec =
    0x0f ∷ 0x11 ∷ 0x13 ∷ 0x15 ∷ []

-- Table 7.7: fdecay, by fdcycod
unfoldable pub fastdec : List ℕ
fastdec =
    0x3f ∷ 0x53 ∷ 0x67 ∷ 0x7b ∷ []

-- Table 7.8: sgain, by sgaincod
unfoldable pub slowgain : List ℕ
slowgain =
    0x540 ∷ 0x4d8 ∷ 0x478 ∷ 0x410 ∷ []

-- Table 7.9: dbknee, by dbpbcod
unfoldable pub dbpbtab : List ℕ
dbpbtab =
    0x000 ∷ 0x700 ∷ 0x900 ∷ 0xb00 ∷ []

-- Table 7.10: floor, by floorcod, in two's complement of 16 bits; the last is -2048
unfoldable pub floortab : List ℕ
floortab =
    0x02f0 ∷ 0x02b0 ∷ 0x0270 ∷ 0x0230 ∷ 0x01f0 ∷ 0x0170 ∷ 0x00f0 ∷ 0xf800 ∷ []

-- Table 7.11: fgain, by fgaincod
unfoldable pub fastgain : List ℕ
fastgain =
    0x080 ∷ 0x100 ∷ 0x180 ∷ 0x200 ∷ 0x280 ∷ 0x300 ∷ 0x380 ∷ 0x400 ∷ []

-- the number that an entry of floortab stands for: a pattern of 16 bits in two's complement
unfoldable pub signed16 : ℕ → ℤ
signed16 n = cond (ltb n 0x8000) (pos n) (pos n -ℤ pos 0x10000)
