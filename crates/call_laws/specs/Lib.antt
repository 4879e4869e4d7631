pub mod Submissions
