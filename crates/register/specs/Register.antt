-- Request 10: "the serial error status register of Tables 13 and 14", a byte of eight bits. OR and AND are the library's.
use Rattle.std.specs.Prelude.{ℕ, ◌+◌, ◌/◌, ◌%◌, ◌^◌, Bool, ◌&&◌}
use Rattle.std.specs.Int.Bits.{bit_or, bit_and}
use Rattle.octets.specs.Choice.{◌is◌}

-- Table 14, bit 5: "Illegal Command Code, File Label, illegal read or write SPECIAL FUNCTIONS"
abbrev pub ILLEGAL : ℕ
ILLEGAL = 0x20

-- bit 4: "Serial Checksum Error"
abbrev pub CHECKSUM : ℕ
CHECKSUM = 0x10

-- bits 2, 1 and 0: "Serial timeout", "Bit framing error", "Parity error"
abbrev pub TIME-OUT : ℕ
TIME-OUT = 0x04

abbrev pub FRAMING : ℕ
FRAMING = 0x02

abbrev pub PARITY : ℕ
PARITY = 0x01

-- "default value (40H or 01000000B)"
abbrev pub CLEARED : ℕ
CLEARED = 0x40

-- bit k of a register, 0 or 1
abbrev pub bit : ℕ → ℕ → ℕ
bit r k = r / 2 ^ k % 2

-- its fixed bits, 7 and 6: "Always 0", "Always 1"
unfoldable pub is_register : ℕ → Bool
is_register r = bit r 7 is 0 && bit r 6 is 1

-- "Errors are OR'd into the Serial Error Status Register.": the register with these bits set
abbrev pub noted : ℕ → ℕ → ℕ
noted r bits = bit_or r bits

-- "Parity, framing and time-out bits come from the port driver through a call, which ignores other bits."
abbrev pub driven_by : ℕ → ℕ → ℕ
driven_by r bits = noted r (bit_and bits (TIME-OUT + FRAMING + PARITY))
