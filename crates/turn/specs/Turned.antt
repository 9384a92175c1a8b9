-- What the program `turn` writes. Assumes nothing.
use Rattle.std.specs.Prelude.{cond, ◌&&◌, List, [], ℕ, ◌*◌, eqb, length, Option, Some, None}
use Rattle.buffer.specs.Places.{BASE}
use Rattle.turning.specs.Turning.{good1, turned}
use Rattle.image.specs.Image.{image_of, numbers_of}

-- the bytes of a good state of version 1, turned; of any others nothing
unfoldable pub turned_image : List ℕ → List ℕ
turned_image bytes =
    let old = numbers_of bytes in
    cond (eqb (length bytes) (4 * BASE) && good1 old) (image_of (turned old)) []

-- as the code says it: where no state is turned, nothing is written
abbrev pub written : Option (List ℕ) → List ℕ
written (Some bytes) = bytes
written None = []
