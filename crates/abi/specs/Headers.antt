-- How the exported writers take the numbers of a header, as words, and how they tell their answer.
-- Assumes nothing.
use Rattle.std.specs.Prelude.{ℕ, ◌/◌, ◌%◌, min, Bool, ◌&&◌, List, [], ◌∷◌, leb, get_or, Ok, Err}
use Rattle.image.specs.declared.Version.{Version}
use Rattle.writer.specs.declared.Vendor.{Vendor}
use Rattle.writer.specs.declared.Firmware.{Firmware}
use Rattle.writer.specs.Writers.{Written}

-- ---- the vendor header: expiry, major, minor, m, n, vtrust and sigmask

-- major, minor and sigmask fit a byte, and vtrust fits two
unfoldable pub vendor_fits : List ℕ → Bool
vendor_fits w = leb (get_or w 1 0) 255 && (leb (get_or w 2 0) 255 && (leb (get_or w 5 0) 65535 && leb (get_or w 6 0) 255))

-- an m or n above 255 is read as 255, which no header takes either
unfoldable pub vendor_of : List ℕ → Vendor
vendor_of w =
    record {
      expiry = get_or w 0 0;
      major = get_or w 1 0 % 256;
      minor = get_or w 2 0 % 256;
      m = min (get_or w 3 0) 255;
      n = min (get_or w 4 0) 255;
      trust = get_or w 5 0 % 65536;
      mask = get_or w 6 0 % 256;
    }

-- ---- the firmware header: v, expiry, version, fix version and sigmask

-- sigmask fits a byte
unfoldable pub firmware_fits : List ℕ → Bool
firmware_fits w = leb (get_or w 4 0) 255

-- a version from a word, the major number from its least byte
abbrev pub version_of : ℕ → Version
version_of x = record { major = x % 256; minor = x / 256 % 256; patch = x / 65536 % 256; build = x / 16777216 % 256 }

unfoldable pub firmware_of : List ℕ → Firmware
firmware_of w =
    record { expiry = get_or w 1 0; version = version_of (get_or w 2 0); fix = version_of (get_or w 3 0); mask = get_or w 4 0 % 256 }

-- ---- the answer

-- the header's length; after a refusal the word stays as it was
abbrev pub written_word : Written → List ℕ → List ℕ
written_word (Ok len) old = len % 4294967296 ∷ []
written_word (Err number) old = old
