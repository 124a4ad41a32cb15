-- What the scanner finds is what stands at the front.
use Rattle.std.proofs.Common.{◌≡◌, ℕ, ◌+◌, ◌-◌, ◌<◌, List, drop, length, refl, subst, arith}
use Rattle.std.proofs.lemmas.List.{drop_all}
use Rattle.resin_trace.specs.declared.scan.Scan.{Scan}
use Rattle.resin_trace.specs.declared.scan.Scan.TheVariants.{Piece as ScanPiece, End as ScanEnd, Need as ScanNeed, Bad as ScanBad}
use Rattle.resin_trace.specs.Front.{Found, Need, Shows, end, front}
use Rattle.resin_trace.specs.Reads.{Stands, Scans}
use Rattle.resin_trace.proofs.Turns.{front_at}
use Rattle.resin_trace.proofs.Words.{front_stands}

-- the text ends before the word that ends a connection does
pub end_need : (text word : List ℕ) (conn at i : ℕ) → i < length word → i ≡ length text - at → end conn (at + i) (drop i word) (drop (at + i) text) ≡ Need
end_need text word conn at i h e = rw (front_at i word h, drop_all (at + i) text (omega arith)) refl

scans_of : (text : List ℕ) (scan : Scan) (found : Found) → Shows text scan found → Stands text found → Scans text scan
scans_of text (ScanPiece conn from to) found h s = (subst (Stands text) h.0 s, h.1, h.2)
scans_of text (ScanEnd conn used) found h s = (subst (Stands text) h.0 s, h.1)
scans_of text ScanNeed found h s = subst (Stands text) h s
scans_of text ScanBad found h s = subst (Stands text) h s

pub looked : (text : List ℕ) (scan : Scan) → Shows text scan (front text) → Scans text scan
looked text scan h = scans_of text scan (front text) h (front_stands text)
