-- Digests in lower-case hexadecimal, all of whose bytes carry one set: each byte of a digest comes from every byte of its text.
use Rattle.hex.specs.Hex.{encode_lower}
use Rattle.md5.specs.Md5.{md5}
use Rattle.sha1.specs.Sha1.{sha1}
use Rattle.resin_label.specs.Sets.{NumberSet}
use Rattle.resin_lstr.specs.Texts.{Text, bytes_of, carrying}

-- RFC 1321
abbrev pub md5_digest : Text → NumberSet → Text
md5_digest t s = carrying s (encode_lower (md5 (bytes_of t)))

-- RFC 3174
abbrev pub sha1_digest : Text → NumberSet → Text
sha1_digest t s = carrying s (encode_lower (sha1 (bytes_of t)))
