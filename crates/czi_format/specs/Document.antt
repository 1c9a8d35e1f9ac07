-- A document: plain lists and numbers.
use Rattle.std.specs.Prelude.{◌≡◌, ℕ, ◌≤◌, ◌^◌, List, length, Option}
use Rattle.czi_format.specs.Entry.{EntryInfo, AttInfo, IsEntryInfo, IsAttInfo}
use Rattle.std.specs.List.{AllByRecursion}

pub record Subblock : Type 0 where
  pub info : EntryInfo
  pub meta : List ℕ
  pub pixels : List ℕ
  pub tail : List ℕ

pub record Attachment : Type 0 where
  pub info : AttInfo
  pub bytes : List ℕ

pub record Metadata : Type 0 where
  pub xml : List ℕ
  pub tail : List ℕ

pub record Document : Type 0 where
  pub identity : List ℕ
  pub subblocks : List Subblock
  pub attachments : List Attachment
  pub metadata : Option Metadata

-- The limits of a document.
pub record IsDocument (d : Document) : Type 0 where
  pub identity : length d.identity ≡ 52
  pub subblocks : length d.subblocks ≤ 2 ^ 20
  pub infos : AllByRecursion (λ s. IsEntryInfo s.info) d.subblocks
  pub attachments : length d.attachments ≤ 2 ^ 12
  pub attachment_infos : AllByRecursion (λ a. IsAttInfo a.info) d.attachments
