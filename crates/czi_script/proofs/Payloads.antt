-- The payload of a line, and what closes it.
use Rattle.std.proofs.Common.{◌≡◌, ℕ, ◌+◌, List, [], ◌∷◌, ◌++◌, length, Option, None, option_map, inl, inr, refl, ap, ◌∙◌, arith, length-append}
use Rattle.czi_script.specs.declared.command.Command.{Command as CodeCommand}
use Rattle.czi_script.specs.declared.error.ScriptError.{ScriptError}
use Rattle.czi_script.specs.declared.head.Plain.{Plain as CodePlain}
use Rattle.czi_script.specs.Script.{Head, Alone, Brings, Payload, Tile, Attachment, Metadata, Piece, close, first_past, or_past, payload_len, pieces, plain_command, total, with_contents}
use Rattle.czi_script.specs.declared.payload.Piece.{Piece as CodePiece}
use Rattle.czi_script.specs.declared.payload.Pieces.{Pieces as CodePieces}
use Rattle.czi_script.specs.View.{command_of, plain_of, piece_of, pieces_of}
use Rattle.czi_script.specs.Reader.{Reader}
use Rattle.czi_script.specs.Pieces.{Passed, Contents, FeedStops, Finished, PayloadStops, three_pieces}
use Rattle.czi_script.proofs.Passing.{passed_here, passed_both, interrupted_then, tail_then}

-- a payload's pieces, with empty ones behind them

pub same_len : (p : Payload) → total (three_pieces p) ≡ payload_len (Brings p)
same_len (Tile verb info meta pixels tail) = refl
same_len (Attachment verb info len) = refl
same_len (Metadata xml tail) = refl

pub same_past : (p : Payload) → first_past (three_pieces p) ≡ first_past (pieces (Brings p))
same_past (Tile verb info meta pixels tail) = refl
same_past (Attachment verb info len) = refl
same_past (Metadata xml tail) = refl

module _ (p : Payload) (ps : CodePieces) (are : pieces_of ps ≡ three_pieces p) where
  pub len_is : ps.first.len + (ps.second.len + (ps.third.len + 0)) ≡ payload_len (Brings p)
  len_is = ap total are ∙ same_len p

  pub past_is : (past : Option CodePiece) → option_map piece_of past ≡ first_past (pieces_of ps) → option_map piece_of past ≡ first_past (pieces (Brings p))
  past_is past e = e ∙ ap first_past are ∙ same_past p

-- three pieces, one after another
pub in_turn : (h : Head) (a b c d : Reader) (s t u v : Option (List ℕ)) (meta pixels tail : List ℕ) (command : CodeCommand) → Passed a b s t meta → Passed b c t u pixels → Passed c d u v tail → length meta + (length pixels + (length tail + 0)) ≡ payload_len h
    → None ≡ first_past (pieces h) → command_of command ≡ with_contents h (meta ++ (pixels ++ tail)) → Contents a d s v h command
in_turn h a b c d s t u v meta pixels tail command p q r sized none tells = record {
  payload = meta ++ (pixels ++ tail);
  passed = passed_both a b d s t v meta (pixels ++ tail) p (passed_both b c d t u v pixels tail q r);
  sized =
      let m : length (meta ++ (pixels ++ tail)) ≡ length meta + length (pixels ++ tail) = length-append meta (pixels ++ tail) in
      let n : length (pixels ++ tail) ≡ length pixels + length tail = length-append pixels tail in
      omega (arith, m, n, sized);
  tells = tells ∙ ap (λ (past : Option Piece). or_past past (with_contents h (meta ++ (pixels ++ tail)))) none;
}

pub fed : (old mid new : Reader) (start middle end : Option (List ℕ)) (p : Payload) (c : CodeCommand) → Contents old mid start middle (Brings p) c → Passed mid new middle end (10 ∷ []) → Finished old new start end (Brings p) c
fed old mid new start middle end p c k feed = record { payload = k.payload; passed = passed_both old mid new start middle end k.payload (10 ∷ []) k.passed feed; sized = k.sized; tells = k.tells }

pub feed_stopped : (old mid new : Reader) (start middle end : Option (List ℕ)) (h : Head) (c : CodeCommand) (error : ScriptError) → close h ≡ 10 ∷ [] → Contents old mid start middle h c → FeedStops mid new middle end error → PayloadStops old new start end h error
feed_stopped old mid new start middle end h c error closed k stops = (
  closed,
  elim stops [
    | inl i ↦ inl (interrupted_then old mid new start middle end k.payload 0 (payload_len h) error k.passed i (let n : length k.payload ≡ payload_len h = k.sized in omega (arith, n)))
    | inr t ↦ inr (tail_then old mid new start middle end k.payload (payload_len h) error k.passed t k.sized)
  ],
)

-- a line that is a whole command
pub alone_finished : (r : Reader) (left : Option (List ℕ)) (p : CodePlain) (c : CodeCommand) → command_of c ≡ plain_command (plain_of p) → Finished r r left left (Alone (plain_of p)) c
alone_finished r left p c tells = record { payload = []; passed = passed_here r left left refl; sized = refl; tells = tells }
